use Rattle.std.proofs.Common.{◌≡◌}
use Rattle.rv_slots.specs.declared.seats.Seat.{Seat}
use Rattle.rv_threads.proofs.Popped.{popped}
use Rattle.rv_threads.proofs.slots.table.take_seat.Goals as goal

pub loop-turn-preserved : goal.loop-turn-preserved
loop-turn-preserved g c =
    (popped (λ (s : Seat). s.place.table_id ≡ c.args.slots.now.table.shared.table_id)
    c.loop-turn.seats.items c.pop.new.self.items c.pop.result c.in-Some.seat c.pop.ensures.items
    c.in-Some.is c.loop-turn.invariant).1
