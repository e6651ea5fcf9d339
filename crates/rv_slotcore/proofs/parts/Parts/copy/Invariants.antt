use Rattle.rv_slotcore.proofs.Common.{◌≡◌, map, take, seat_of}
use Rattle.rv_slotcore.proofs.parts.Parts.copy.Given as goal

abbrev pub invariant-loop-k : goal.invariant-loop-k
invariant-loop-k l = map seat_of l.seats.items ≡ map seat_of (take l.k l.self.seats.items)
