use Rattle.rv_cut.specs.Cuts.{AreLower}
use Rattle.rv_cut.proofs.closing.keep_open.Given as goal

abbrev pub invariant-rounds : goal.invariant-rounds
invariant-rounds l = AreLower l.fn.cut l.cut
