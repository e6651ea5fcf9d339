-- What events leave a hart with a reservation.
use Rattle.std.proofs.Common.{Bool, List, arith, false, filter, if◌then◌else◌, true, ℕ, [], ◌&&◌, ◌++◌, ◌==◌, ◌∷◌}
use Rattle.std.proofs.Common.{◌≡◌}
use Rattle.std.proofs.lemmas.Grind.{common_steps}
use Rattle.rv_event.specs.Faults.{is_lr, is_reserved}
use Rattle.rv_event.specs.Operations.{is_exclusive}
use Rattle.rv_event.specs.declared.event.Event.{Event}

-- after one event more of those that are looked at
pub reserved-in : (test : Event → Bool) (es : List Event) (e : Event) (hart : ℕ) → test e ≡ true →
    is_reserved (filter test (es ++ e ∷ [])) hart
    ≡ (if (hart == e.id.hart) && is_exclusive e.op then is_lr e.op else is_reserved (filter test es) hart)
reserved-in test es e hart passes = grind (arith, common_steps)

-- after one event more of the others
pub reserved-out : (test : Event → Bool) (es : List Event) (e : Event) (hart : ℕ) → test e ≡ false →
    is_reserved (filter test (es ++ e ∷ [])) hart ≡ is_reserved (filter test es) hart
reserved-out test es e hart fails = grind (arith, common_steps)
