use Rattle.rv_cut.specs.Cuts.{first_of}
use Rattle.rv_endless.proofs.Before.{before-same, edge-before, edge-into, window-more}
use Rattle.rv_endless.specs.Runs.{AreForgotten, IsEdgeIntoPast, in_window}
use Rattle.rv_endless.specs.Steps.{IsPastOf, Joins}
use Rattle.rv_endless.specs.declared.run.Endless.{Endless}
use Rattle.rv_event.proofs.Common.{map-append}
use Rattle.rv_event.proofs.Indexed.{Indexed, indexed_from_WellFormed}
use Rattle.rv_event.specs.Log.{events, of_hart}
use Rattle.rv_event.specs.declared.event.Entry.{Entry}
use Rattle.rv_event.specs.declared.event.Event.{Event}
use Rattle.rv_past.specs.Before.{ComesBefore, IsEdgeTo}
use Rattle.rv_past.specs.Laws.{IsPartner}
use Rattle.rv_past.specs.declared.edge.PastEdge.{PastEdge}
use Rattle.rv_settle.specs.Past.{ComesBeforePast}
use Rattle.rv_settle.specs.Windows.{renumbered, window}
use Rattle.std.proofs.Common.{◌≡◌, ◌∙◌, ◌≤◌, ◌++◌, ◌∷◌, [], Bool, List, MatchOption, None, Option, Some, ap, length}
use Rattle.std.proofs.Common.{refl, subst, sym}
use Rattle.std.specs.Option.{option_copied}
use Rattle.rv_endless.proofs.run.Endless.find_edge.Goals as goal

-- the LR found in the window with the entry is the one in the window of the log with it
partner-in : (run : Endless) (log seen : List Entry) (x y : Entry) (lr : Option Event) → Joins run log x →
    run.book.log ≡ window (first_of run.firsts) log → y ≡ in_window run x → seen ≡ run.book.log →
    (length (of_hart y.event.id.hart (events seen)) ≤ y.event.id.seq →
    IsPartner (events seen ++ y.event ∷ []) y.event lr) →
    IsPartner (events (window (first_of run.firsts) (log ++ x ∷ []))) (renumbered (first_of run.firsts) x.event) lr
partner-in run log seen x y lr joins window-is is same found =
    subst (λ (es : List Event). IsPartner es new lr) (sym whole) here
  where
    new : Event
    new = renumbered (first_of run.firsts) x.event

    whole : events (window (first_of run.firsts) (log ++ x ∷ [])) ≡ events run.book.log ++ new ∷ []
    whole = ap events (window-more (first_of run.firsts) log x joins.kept)
        ∙ map-append (λ (z : Entry). z.event) (window (first_of run.firsts) log) (in_window run x ∷ [])
        ∙ ap (λ (xs : List Entry). events xs ++ new ∷ []) (sym window-is)

    seen-here : length (of_hart x.event.id.hart (events run.book.log)) ≤ (in_window run x).event.id.seq →
        IsPartner (events run.book.log ++ new ∷ []) new lr
    seen-here = subst (λ (xs : List Entry). length (of_hart x.event.id.hart (events xs)) ≤ new.id.seq →
        IsPartner (events xs ++ new ∷ []) new lr) same
        (subst (λ (z : Entry). length (of_hart z.event.id.hart (events seen)) ≤ z.event.id.seq →
        IsPartner (events seen ++ z.event ∷ []) z.event lr) is found)

    here : IsPartner (events run.book.log ++ new ∷ []) new lr
    here = seen-here joins.last

pub returns : goal.returns
returns c = λ log gone past window-is moved-is forgotten of free joins.
    let indexed = subst (λ (xs : List Entry). Indexed (events xs)) (sym c.log.ensures.value)
    (indexed_from_WellFormed c.args.self.now.book.log c.log.ensures.well_formed) in
    let partner = partner-in c.args.self.now log c.log.result.now c.args.entry.now c.args.moved.now
    (option_copied c.find_partner-lr.result) joins window-is moved-is c.log.ensures.value
    (λ last. c.find_partner-lr.ensures indexed last) in
    told c.args.self.now log gone c.args.entry.now past forgotten of joins (option_copied c.find_partner-lr.result)
    partner c.find_edge.result (c.find_edge.ensures (events gone) forgotten.past free)
  where
    told : (run : Endless) (log gone : List Entry) (x : Entry) (past : Event → Bool)
        (forgotten : AreForgotten run log gone) (of : IsPastOf run log past) (joins : Joins run log x)
        (lr : Option Event)
        (partner : IsPartner (events (window (first_of run.firsts) (log ++ x ∷ [])))
        (renumbered (first_of run.firsts) x.event) lr) (found : Option PastEdge) →
        MatchOption found (ComesBefore (events gone) lr x.event → ⊥) (IsEdgeTo (events gone) lr x.event) →
        MatchOption found (ComesBeforePast (events (log ++ x ∷ [])) past x.event → ⊥) (λ edge.
        ComesBeforePast (events (log ++ x ∷ [])) past x.event × IsEdgeIntoPast run log x edge)
    told run log gone x past forgotten of joins lr partner None none =
        λ before. none ((before-same run log gone x past forgotten of joins lr partner).1 before)
    told run log gone x past forgotten of joins lr partner (Some edge) leads = (
      (before-same run log gone x past forgotten of joins lr partner).0
          (edge-before run log gone x past forgotten of joins lr partner edge leads),
      edge-into run log gone x past forgotten of joins lr partner run.book.model edge refl leads,
    )
