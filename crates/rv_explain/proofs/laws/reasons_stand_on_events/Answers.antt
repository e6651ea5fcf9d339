use Rattle.rv_explain.proofs.Standing.{reasons-stand}
use Rattle.rv_explain.proofs.laws.reasons_stand_on_events.Goals as goal

pub returns : goal.returns
returns c = reasons-stand
