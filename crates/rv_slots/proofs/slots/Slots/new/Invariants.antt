use Rattle.rv_slots.proofs.Common.{last_seat, seats_at_most, ◌≡◌, ◌≤◌, ◌-◌, [], AreSeats, fresh_seats}
use Rattle.rv_slots.proofs.slots.Slots.new.Given as goal

abbrev pub invariant-loop-number : goal.invariant-loop-number
invariant-loop-number l = (l.rest.table_id ≡ l.table.shared.table_id) ×
    (l.rest.me ≡ (record { seats = fresh_seats (seats_at_most - l.number) }, []))
    × AreSeats l.table.shared.table_id l.seats.items l.number × (l.number ≤ last_seat)
