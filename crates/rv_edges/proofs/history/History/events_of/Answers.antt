-- A hart's events are the log's of the hart.
use Rattle.rv_edges.proofs.Common.{List, refl, sym, ap, ◌∙◌, slice_get, find, subst, named-of_hart, events}
use Rattle.rv_edges.proofs.Common.{of_hart, Hart, IsHart, Event, happened, hart_in, places-none, named-at}
use Rattle.rv_edges.proofs.Common.{named-own}
use Rattle.std.proofs.Common.{rules}
use Rattle.rv_edges.proofs.IndexFacts.{hart-is, of_entries}
use Rattle.rv_edges.proofs.history.History.events_of.Goals as goal

pub events-requires : goal.events-requires
events-requires c =
    of_entries c.args.self.now c.entries-log.result.now c.args.number c.in-Some.hart.now c.entries-log.ensures.events
    c.in-Some.ensures.hart

pub returns-in-Some-clause-value : goal.returns-in-Some-clause-value
returns-in-Some-clause-value c = c.events.ensures.value
    ∙ ap (λ (h : Hart). h.events) (hart-is c.args.self.now c.entries-log.result.now c.args.number c.in-Some.hart.now
    c.entries-log.ensures.events c.in-Some.ensures.hart)

pub returns-in-Some-clause-named : goal.returns-in-Some-clause-named
returns-in-Some-clause-named c s =
    let past = c.args.self.now in
    let is = hart-is past c.entries-log.result.now c.args.number c.in-Some.hart.now c.entries-log.ensures.events
    c.in-Some.ensures.hart in
    let value = c.events.ensures.value ∙ ap (λ (h : Hart). h.events) is in
    sym (named-own (happened past.kept) c.args.number (record { hart = c.args.number; seq = s }) refl)
    ∙ named-at (hart_in past c.args.number) (subst IsHart is c.events.ensures.hart) s
    ∙ ap (λ (es : List Event). slice_get es s) (sym value)

pub new-requires : goal.new-requires
new-requires c =
    sym (places-none c.args.number (events c.entries-log.result.now)
    (ap (of_hart c.args.number) c.entries-log.ensures.events ∙ c.in-None.ensures.hart))

pub returns-in-None-clause-named : goal.returns-in-None-clause-named
returns-in-None-clause-named c s = search (named-of_hart, find, rules)
