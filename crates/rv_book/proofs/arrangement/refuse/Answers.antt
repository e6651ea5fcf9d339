-- The evidence is the log with the entry, in which the path is a circle.
use Rattle.rv_book.proofs.Common.{arith, common_steps, ◌≡◌, List, [], ◌∷◌, ◌++◌, map, sym, ap, ◌∙◌, subst, events}
use Rattle.rv_book.proofs.Common.{Entry, Event, grown, IsClosedWalk, MemoryModel, EachLeads, at}
use Rattle.rv_book.proofs.CallValues.{own_circle, leads_log}
use Rattle.rv_book.proofs.arrangement.refuse.Goals as goal

-- the events of a log with the entry, where the log's are known
events-with : (log entries evidence : List Entry) (x : Entry) (happened : List Event) → log ≡ evidence →
    evidence ≡ entries ++ x ∷ [] → events entries ≡ happened → events log ≡ happened ++ x.event ∷ []
events-with log entries evidence x happened is with_x known = grind (arith, common_steps)

pub close-requires-clause-leads : goal.close-requires-clause-leads
close-requires-clause-leads c =
    subst (λ (m : MemoryModel). EachLeads m (events c.as_slice-log.result.now) c.as_slice.result.now)
    (sym c.model.ensures.value)
    (leads_log c.args.history.now.model (grown c.args.history.now.kept c.args.entry.now.event)
    (events c.as_slice-log.result.now) _ c.as_slice.result.now
    (events-with c.as_slice-log.result.now c.entries.result.now c.in_ok-evidence.evidence c.args.entry.now _
    c.as_slice-log.ensures c.in_ok-evidence.ensures c.entries.ensures.events)
    (c.as_slice.ensures.value ∙ c.in_ok-walk.ensures) c.requires.leads)

pub returns : goal.returns
returns c =
    let log = events-with c.as_slice-log.result.now c.entries.result.now c.in_ok-evidence.evidence c.args.entry.now _
    c.as_slice-log.ensures c.in_ok-evidence.ensures c.entries.ensures.events in
    let own = own_circle c.args.history.now.model (grown c.args.history.now.kept c.args.entry.now.event)
    (events c.as_slice-log.result.now) c.args.entry.now.event (map (at c.args.ids.now) c.args.path.now)
    c.as_slice.result.now c.in_ok-steps.steps.items c.from_vec.result log
    (c.as_slice.ensures.value ∙ c.in_ok-walk.ensures) c.from_vec.ensures
    (subst (λ (m : MemoryModel). IsClosedWalk m (events c.as_slice-log.result.now) c.in_ok-steps.steps.items)
    c.model.ensures.value c.in_ok-steps.ensures.closed) c.in_ok-steps.ensures.walked c.requires.once in (
      c.in_ok-evidence.ensures ∙ ap (λ (xs : List Entry). xs ++ c.args.entry.now ∷ []) c.entries.ensures.value,
      own.0,
      own.1,
    )
