use Rattle.rv_memory.proofs.Single.{one-version}
use Rattle.rv_memory.proofs.laws.loads_return_one_version.Goals as goal

pub returns : goal.returns
returns c log load version other order is also = one-version log order load version other is also
