use Rattle.rv_hart.proofs.Common.{◌≡◌, rules, tests, Lr}
use Rattle.rv_hart.proofs.HartFacts.{fits_of}
use Rattle.rv_hart.proofs.GrownSets.{reservation-kept, reservation-new, reservation-ended}
use Rattle.rv_hart.proofs.sets.reserved_after.Goals as goal

pub returns-then-not-is_exclusive : goal.returns-then-not-is_exclusive
returns-then-not-is_exclusive c = λ h ok follows is. reservation-kept
    (fits_of h c.args.event.now ok follows) (search (rules, tests)) c.args.reserved is

pub returns-then-eq : goal.returns-then-eq
returns-then-eq c = λ h ok follows is. reservation-new (fits_of h c.args.event.now ok follows)
    (search (rules, tests))

pub returns-else-eq : goal.returns-else-eq
returns-else-eq c = λ h ok follows is.
    let other : c.args.event.now.op ≡ Lr → ⊥ = search (rules, tests) in
    reservation-ended (fits_of h c.args.event.now ok follows) (search (rules, tests)) other
