use Rattle.rv_run.specs.Comparisons.{AreCountedFed}
use Rattle.rv_run.proofs.missing.ends_lacking.Given as goal

-- the end records so far count the rows of their sources
abbrev pub invariant-loop-i : goal.invariant-loop-i
invariant-loop-i l = AreCountedFed l.fed l.i
