-- The writer of what the load returned, where it is of the load's hart.
use Rattle.rv_edges.proofs.Common.{◌≡◌, Option, Some, None, option_map, sym, ap, ◌∙◌, subst, refl, List}
use Rattle.rv_edges.proofs.Common.{none-some, same_Some, events, writer, IsLoad, Id, Event, IsReturned, happened}
use Rattle.rv_edges.proofs.Common.{hart_in}
use Rattle.rv_edges.proofs.IndexFacts.{log-is, past-indexed}
use Rattle.rv_edges.proofs.HartOfLog.{returned_none, returned_some, returned_other}
use Rattle.rv_edges.proofs.history.History.returned.Goals as goal

nothing : (o : Option Event) → None ≡ option_map (λ (w : Event). w.id) o → o ≡ None
nothing None e = refl
nothing (Some w) e = absurd (none-some w.id e)

something : (o : Option Event) (i : Id) → Some i ≡ option_map (λ (w : Event). w.id) o → (w : Event) ×
    (o ≡ Some w) × (w.id ≡ i)
something None i e = absurd (none-some i (sym e))
something (Some w) i e = (w, refl, same_Some w.id i (sym e))

pub returns-in_err-store : goal.returns-in_err-store
returns-in_err-store c =
    let now = c.args.self.now in
    let e = c.args.event.now in
    let is = log-is c.self.inside.model c.self.inside.versions c.self.inside.harts.items c.self.inside.links
    c.self.invariant now c.self.view_is in
    let known = past-indexed c.self.inside.model c.self.inside.versions c.self.inside.harts.items c.self.inside.links
    c.self.invariant now c.self.view_is in
    let none = subst (λ (l : List Event). writer l e.word e.read ≡ None) is
    (nothing (writer (events c.self.inside.versions) e.word e.read) c.in_err-store.ensures) in
    subst (IsReturned (hart_in now e.id.hart) e) (sym c.from_residual.ensures)
    (returned_none now.model (happened now.kept) e known none)

pub returns-then-store-event : goal.returns-then-store-event
returns-then-store-event c =
    let now = c.args.self.now in
    let e = c.args.event.now in
    let is = log-is c.self.inside.model c.self.inside.versions c.self.inside.harts.items c.self.inside.links
    c.self.invariant now c.self.view_is in
    let known = past-indexed c.self.inside.model c.self.inside.versions c.self.inside.harts.items c.self.inside.links
    c.self.invariant now c.self.view_is in
    let some = something (writer (events c.self.inside.versions) e.word e.read) c.in_ok-store.store
    c.in_ok-store.ensures in
    let found = subst (λ (l : List Event). writer l e.word e.read ≡ Some some.0) is some.1 in
    let load : IsLoad e = sym c.if-not-is_load.ensures in
    let own = returned_some now.model (happened now.kept) e known some.0 found
    (ap (λ (i : Id). i.hart) some.2 ∙ c.if-store-event.true) load in
    (own.0, own.1, own.2 ∙ ap (λ (i : Id). i.seq) some.2)

pub returns-else-store-event : goal.returns-else-store-event
returns-else-store-event c =
    let now = c.args.self.now in
    let e = c.args.event.now in
    let is = log-is c.self.inside.model c.self.inside.versions c.self.inside.harts.items c.self.inside.links
    c.self.invariant now c.self.view_is in
    let known = past-indexed c.self.inside.model c.self.inside.versions c.self.inside.harts.items c.self.inside.links
    c.self.invariant now c.self.view_is in
    let some = something (writer (events c.self.inside.versions) e.word e.read) c.in_ok-store.store
    c.in_ok-store.ensures in
    let found = subst (λ (l : List Event). writer l e.word e.read ≡ Some some.0) is some.1 in
    returned_other now.model (happened now.kept) e known some.0 found
    (λ same. c.if-store-event.false (sym (ap (λ (i : Id). i.hart) some.2) ∙ same))
