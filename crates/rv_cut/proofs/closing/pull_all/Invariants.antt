use Rattle.rv_cut.specs.Cuts.{AreLower}
use Rattle.rv_cut.proofs.closing.pull_all.Given as goal

abbrev pub invariant-loop-hart : goal.invariant-loop-hart
invariant-loop-hart l = AreLower l.fn.cut l.cut
