use Rattle.rv_slotcore.proofs.Common.{◌≡◌, map, replicate, List, Seat, seat_of, idle_seat}
use Rattle.rv_slotcore.proofs.parts.Parts.new.Given as goal

abbrev pub invariant-loop-number : goal.invariant-loop-number
invariant-loop-number l =
    let idle : List Seat = replicate l.number idle_seat in
    map seat_of l.entries.items ≡ idle
