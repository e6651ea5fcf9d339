use Rattle.rv_cut.specs.Cuts.{AreLower}
use Rattle.rv_cut.proofs.closing.push_pairs.Given as goal

abbrev pub invariant-loop-entry : goal.invariant-loop-entry
invariant-loop-entry l = AreLower l.fn.cut l.cut

abbrev pub invariant-loop-hart : goal.invariant-loop-hart
invariant-loop-hart l = AreLower l.fn.cut l.cut
