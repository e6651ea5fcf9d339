use Rattle.std.proofs.Common.{List}
use Rattle.rv_event.specs.declared.event.Event.{Event}
use Rattle.rv_event.specs.declared.memory_model.MemoryModel.{MemoryModel}
use Rattle.rv_cut.specs.Marked.{AreEdges, AreMarked}
use Rattle.rv_cut.proofs.reach.mark_sources.Given as goal

abbrev pub invariant-loop-tie : goal.invariant-loop-tie
invariant-loop-tie l = (model : MemoryModel) (log : List Event) → AreEdges model log l.ties →
    AreMarked model log l.fn.marks → AreMarked model log l.marks
