use Rattle.rv_run.proofs.Common.{common_steps, arith}
use Rattle.rv_run.proofs.comparing.count_first.Goals.{then-entry-source+else-count-events+else-not-is_same}
use Rattle.rv_run.proofs.comparing.count_first.Goals.{else-entry-source}
use Rattle.rv_run.proofs.comparing.count_first.Goals as goal

pub loop-entry-preserved : goal.loop-entry-preserved
loop-entry-preserved c = grind (arith, common_steps)
