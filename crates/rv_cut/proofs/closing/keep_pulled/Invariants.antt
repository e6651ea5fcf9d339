use Rattle.rv_cut.specs.Cuts.{AreLower}
use Rattle.rv_cut.proofs.closing.keep_pulled.Given as goal

abbrev pub invariant-ties : goal.invariant-ties
invariant-ties l = AreLower l.fn.cut l.cut
