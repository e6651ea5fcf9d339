use Rattle.rv_slots.proofs.Common.{◌≡◌, AreBusy}
use Rattle.rv_slots.proofs.table_carrier.TableCarrierCarrier.put_chunk.Given as goal

abbrev pub invariant-loop-slot : goal.invariant-loop-slot
invariant-loop-slot g l = (l.seat.place.table_id ≡ l.self.slots.table.shared.table_id)
    × (l.slot-end ≡ l.self.slots.count) × AreBusy l.slot l.fn.seat l.seat
