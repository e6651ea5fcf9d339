use Rattle.rv_event.specs.Log.{events}
use Rattle.rv_cut.specs.Marked.{AreMarked}
use Rattle.rv_cut.proofs.bars.mark_bars.Given as goal

abbrev pub invariant-loop-entry : goal.invariant-loop-entry
invariant-loop-entry l = AreMarked l.model (events l.log) l.fn.marks → AreMarked l.model (events l.log) l.marks
