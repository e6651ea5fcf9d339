use Rattle.rv_hart.proofs.Common.{◌≡◌, ◌<◌, Contains, length, sym, subst, arith, rules, tests, Paired, Event, Sc}
use Rattle.rv_hart.proofs.Common.{Hart, followed, hart_of, HasEvent, IsReserving, IsReservation}
use Rattle.rv_hart.proofs.HartFacts.{Fits, fits_of, read_is}
use Rattle.rv_hart.proofs.RuleConditions.{reserving-paired, paired-reserving}
use Rattle.rv_hart.proofs.kept.Kept.partner.Goals as goal

pub returns-in_err-lr : goal.returns-in_err-lr
returns-in_err-lr c =
    let h : Hart = hart_of c.args.events.now c.args.self.now in
    let e : Event = c.args.event.now in
    let f : Fits h e = fits_of h e c.requires.kept.hart c.requires.follows in
    let none : (a : Event) → Contains h.events a → IsReserving h.events a → ⊥ =
    subst (IsReservation h.events) c.in_err-lr.was c.requires.kept.sets.reserved in
    rw c.from_residual.ensures (λ lr cl p. none lr cl (paired-reserving f lr p))

pub at-partner-requires : goal.at-partner-requires
at-partner-requires c =
    let h : Hart = hart_of c.args.events.now c.args.self.now in
    let e : Event = c.args.event.now in
    let f : Fits h e = fits_of h e c.requires.kept.hart c.requires.follows in
    let lr : HasEvent (IsReserving h.events) h.events c.in_ok-lr.lr =
    subst (IsReservation h.events) c.in_ok-lr.was c.requires.kept.sets.reserved in
    let low : lr.a.id.seq < length h.events = f.known.below lr.a lr.of_list in
    let at : lr.a.id.seq ≡ c.in_ok-lr.lr = lr.at in
    omega arith

pub returns : goal.returns
returns c =
    let h : Hart = hart_of c.args.events.now c.args.self.now in
    let e : Event = c.args.event.now in
    let f : Fits h e = fits_of h e c.requires.kept.hart c.requires.follows in
    let lr : HasEvent (IsReserving h.events) h.events c.in_ok-lr.lr =
    subst (IsReservation h.events) c.in_ok-lr.was c.requires.kept.sets.reserved in
    let same : c.at-partner.result.now ≡ lr.a =
    read_is f.known lr.a c.at-partner.result.now c.in_ok-lr.lr lr.of_list lr.at c.at-partner.ensures in
    let sc : e.op ≡ Sc = search (rules, tests) in
    subst (λ (x : Event). Contains h.events x × Paired (followed h e) x e) (sym same)
    (lr.of_list, reserving-paired f lr.a lr.of_list lr.holds sc)
