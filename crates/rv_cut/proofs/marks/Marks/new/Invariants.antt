use Rattle.std.proofs.Common.{◌≡◌}
use Rattle.rv_event.specs.declared.event.Id.{Id}
use Rattle.rv_cut.specs.Marked.{mark_of}
use Rattle.rv_cut.proofs.marks.Marks.new.Given as goal

abbrev pub invariant-loop : goal.invariant-loop
invariant-loop l = (i : Id) → mark_of l.rows.items i ≡ 0

abbrev pub invariant-loop-entry : goal.invariant-loop-entry
invariant-loop-entry l = (i : Id) → mark_of l.rows.items i ≡ 0
