use Rattle.rv_settle.proofs.Nested.{below-both}
use Rattle.rv_settle.proofs.laws.pasts_add.Goals as goal

pub returns : goal.returns
returns c log first next past more both below below' are = below-both log first next past more both below below' are
