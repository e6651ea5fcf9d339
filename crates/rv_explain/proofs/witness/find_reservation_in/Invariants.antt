use Rattle.std.proofs.Common.{All, take}
use Rattle.rv_event.specs.Log.{events}
use Rattle.rv_explain.specs.Witnesses.{IsReservationIn}
use Rattle.rv_explain.proofs.witness.find_reservation_in.Given as goal

-- none so far
abbrev pub invariant-loop-entry : goal.invariant-loop-entry
invariant-loop-entry l =
    All (λ m. IsReservationIn (events l.log) l.a l.b m → ⊥) (events (take l.entry-index l.log))
