use Rattle.rv_settle.proofs.WindowDecides.{window-decides}
use Rattle.rv_settle.proofs.laws.window_decides.Goals as goal

pub returns : goal.returns
returns c = window-decides
