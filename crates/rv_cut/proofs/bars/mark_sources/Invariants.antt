use Rattle.std.proofs.Common.{List}
use Rattle.std.specs.List.{Contains}
use Rattle.rv_event.specs.declared.event.Event.{Event}
use Rattle.rv_event.specs.declared.memory_model.MemoryModel.{MemoryModel}
use Rattle.rv_cut.specs.Marked.{AreMarked}
use Rattle.rv_cut.proofs.bars.mark_sources.Given as goal

abbrev pub invariant-loop-dep : goal.invariant-loop-dep
invariant-loop-dep l = (model : MemoryModel) (log : List Event) → Contains log l.event →
    AreMarked model log l.fn.marks → AreMarked model log l.marks
