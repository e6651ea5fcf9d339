use Rattle.rv_settle.proofs.CutsCompose.{cuts-compose}
use Rattle.rv_settle.proofs.laws.cuts_compose.Goals as goal

pub returns : goal.returns
returns c = cuts-compose
