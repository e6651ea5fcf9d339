use Rattle.rv_settle.proofs.Nested.{pairs-both}
use Rattle.rv_settle.proofs.laws.pairs_stay_kept.Goals as goal

pub returns : goal.returns
returns c = pairs-both
