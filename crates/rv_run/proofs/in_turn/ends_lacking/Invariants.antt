use Rattle.rv_run.specs.Comparisons.{AreCountedFed}
use Rattle.rv_run.specs.InTurn.{reads_from}
use Rattle.rv_run.proofs.in_turn.ends_lacking.Given as goal

-- the end records so far count the rows of their sources
abbrev pub invariant-loop-i : goal.invariant-loop-i
invariant-loop-i g l = AreCountedFed (reads_from 0 l.book.log l.sources) l.i
