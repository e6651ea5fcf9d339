use Rattle.rv_replay.proofs.Strengths.{returned_at-set}
use Rattle.rv_replay.proofs.strength.set_read.Goals as goal

pub returns : goal.returns
returns c = returned_at-set c.args.version c.args.log.now c.args.place c.index-log-place.result c.requires
