use Rattle.rv_hart.proofs.Common.{◌≡◌, Some, length, sym, ap, ◌∙◌, subst, arith, false≢true, common_steps}
use Rattle.rv_hart.proofs.Common.{IsStale, Event, Hart, followed, hart_of, IsHighestStore}
use Rattle.rv_hart.proofs.HartFacts.{Fits, fits_of, known_of, read_is}
use Rattle.rv_hart.proofs.StalePairs.{stale-load, stale-none, stale-low, stale-high}
use Rattle.rv_hart.proofs.kept.Kept.stale.Goals as goal

pub highest_store-requires-clause-numbered : goal.highest_store-requires-clause-numbered
highest_store-requires-clause-numbered c =
    (known_of (hart_of c.args.events.now c.args.self.now) c.requires.kept.hart).at

pub returns-then-not-is_load : goal.returns-then-not-is_load
returns-then-not-is_load c =
    let h : Hart = hart_of c.args.events.now c.args.self.now in
    let e : Event = c.args.event.now in
    let f : Fits h e = fits_of h e c.requires.kept.hart c.requires.follows in
    λ s p. false≢true (sym c.if-not-is_load.true ∙ c.is_load.ensures.1 (stale-load f s p))

pub returns-in_err-number : goal.returns-in_err-number
returns-in_err-number c =
    let h : Hart = hart_of c.args.events.now c.args.self.now in
    let e : Event = c.args.event.now in
    let f : Fits h e = fits_of h e c.requires.kept.hart c.requires.follows in
    rw c.from_residual.ensures (stale-none f c.in_err-number.ensures)

pub returns-then-event-store : goal.returns-then-event-store
returns-then-event-store c =
    let h : Hart = hart_of c.args.events.now c.args.self.now in
    let e : Event = c.args.event.now in
    let f : Fits h e = fits_of h e c.requires.kept.hart c.requires.follows in
    let high : IsHighestStore h.events e.word (length h.events) (Some c.in_ok-number.number) =
    grind (arith, common_steps) in
    let same : c.at-store.result.now ≡ high.1.a =
    read_is f.known high.1.a c.at-store.result.now c.in_ok-number.number high.1.of_list high.1.at
    c.at-store.ensures in
    subst (λ (x : Event). IsStale (followed h e) e.id x.id) (sym same)
    (stale-high f (c.is_load.ensures.0 c.if-not-is_load.false) c.in_ok-number.number high
    (omega (arith, c.if-event-store.true, ap (λ (x : Event). x.wrote) same)))

pub returns-else-event-store : goal.returns-else-event-store
returns-else-event-store c =
    let h : Hart = hart_of c.args.events.now c.args.self.now in
    let e : Event = c.args.event.now in
    let f : Fits h e = fits_of h e c.requires.kept.hart c.requires.follows in
    let high : IsHighestStore h.events e.word (length h.events) (Some c.in_ok-number.number) =
    grind (arith, common_steps) in
    let same : c.at-store.result.now ≡ high.1.a =
    read_is f.known high.1.a c.at-store.result.now c.in_ok-number.number high.1.of_list high.1.at
    c.at-store.ensures in
    stale-low f c.in_ok-number.number high (omega (arith, c.if-event-store.false, ap (λ (x : Event). x.wrote) same))
