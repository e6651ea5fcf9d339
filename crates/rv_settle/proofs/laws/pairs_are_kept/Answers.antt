use Rattle.rv_settle.proofs.Pairs.{pairs-kept}
use Rattle.rv_settle.proofs.laws.pairs_are_kept.Goals as goal

pub returns : goal.returns
returns c = pairs-kept
