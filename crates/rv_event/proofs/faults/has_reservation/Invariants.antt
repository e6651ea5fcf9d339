use Rattle.rv_event.proofs.Common.{◌≡◌, take, events, is_reserved}
use Rattle.rv_event.proofs.faults.has_reservation.Given as goal

abbrev pub invariant-loop-entry : goal.invariant-loop-entry
invariant-loop-entry l = l.reserved ≡ is_reserved (events (take l.entry-index l.log)) l.hart
