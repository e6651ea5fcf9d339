use Rattle.rv_settle.proofs.Formed.{window-formed}
use Rattle.rv_settle.proofs.laws.windows_are_well_formed.Goals as goal

pub returns : goal.returns
returns c limit log first ok pairs few = window-formed limit log first ok pairs few
