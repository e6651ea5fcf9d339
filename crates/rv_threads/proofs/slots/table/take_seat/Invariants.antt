use Rattle.std.proofs.Common.{◌≡◌, All}
use Rattle.rv_slots.specs.declared.seats.Seat.{Seat}
use Rattle.rv_threads.proofs.slots.table.take_seat.Given as goal

abbrev pub invariant-loop-turn : goal.invariant-loop-turn
invariant-loop-turn g l =
    All (λ (s : Seat). s.place.table_id ≡ l.slots.table.shared.table_id) l.seats.items
