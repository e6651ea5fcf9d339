use Rattle.std.proofs.Common.{take, Contains}
use Rattle.rv_event.specs.Log.{events}
use Rattle.rv_event.specs.Relations.{Paired}
use Rattle.rv_event.specs.declared.event.Entry.{Entry}
use Rattle.rv_parts.proofs.versions.find_reservation.Given as goal

-- none of the entries so far is paired with the event
abbrev pub invariant-loop-entry : goal.invariant-loop-entry
invariant-loop-entry l = (m : Entry) → Contains (take l.entry-index l.entries) m →
    Paired (events l.log) m.event l.event → ⊥
