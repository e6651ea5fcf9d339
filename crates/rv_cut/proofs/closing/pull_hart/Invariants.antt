use Rattle.rv_cut.specs.Cuts.{AreLower}
use Rattle.rv_cut.proofs.closing.pull_hart.Given as goal

abbrev pub invariant-loop : goal.invariant-loop
invariant-loop l = AreLower l.fn.cut l.cut
