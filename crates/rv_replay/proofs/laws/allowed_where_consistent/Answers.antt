use Rattle.rv_replay.proofs.InconsistentRefusals.{exactly_allowed}
use Rattle.rv_replay.proofs.laws.allowed_where_consistent.Goals as goal

pub returns : goal.returns
returns c model entries outcome told = exactly_allowed model entries outcome told
