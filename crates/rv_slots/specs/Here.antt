-- Which seats and leases are those of a carrier over the table.
use Rattle.std.specs.Prelude.{◌≡◌}
use Rattle.rv_slots.specs.declared.seats.Seat.{Seat}
use Rattle.rv_slots.specs.declared.seats.Pinned.{Pinned}
use Rattle.rv_slots.specs.declared.table_carrier.TableCarrier.{TableCarrier}

abbrev pub IsHere : TableCarrier → Seat → Type 0
IsHere carrier seat = seat.place.table_id ≡ carrier.slots.table.shared.table_id

abbrev pub IsLent : TableCarrier → Pinned → Type 0
IsLent carrier lease = lease.place.table_id ≡ carrier.slots.table.shared.table_id
