use Rattle.rv_event.proofs.Bounded.{length-WellFormed}
use Rattle.rv_event.proofs.laws.logs_are_bounded.Goals as goal

pub returns : goal.returns
returns c log ok = length-WellFormed log ok
