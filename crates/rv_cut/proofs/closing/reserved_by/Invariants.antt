use Rattle.std.proofs.Common.{false, filter, slice_index_or, take, ℕ, ◌≡◌}
use Rattle.rv_event.specs.Faults.{is_reserved}
use Rattle.rv_event.specs.Log.{events}
use Rattle.rv_event.specs.declared.event.Event.{Event}
use Rattle.rv_cut.specs.Cuts.{is_past}
use Rattle.rv_cut.proofs.closing.reserved_by.Given as goal

abbrev pub invariant-loop-entry : goal.invariant-loop-entry
invariant-loop-entry l = (hart : ℕ) →
    slice_index_or l.reserved hart false
    ≡ is_reserved (filter (λ (e : Event). is_past l.cut e.id) (events (take l.entry-index l.log))) hart
