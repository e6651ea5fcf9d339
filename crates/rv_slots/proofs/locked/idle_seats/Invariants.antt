use Rattle.rv_slots.proofs.Common.{◌≡◌, range_with_len}
use Rattle.rv_slots.proofs.locked.idle_seats.Given as goal

abbrev pub invariant-loop-number : goal.invariant-loop-number
invariant-loop-number l = l.seats.items ≡ range_with_len 0 l.number
