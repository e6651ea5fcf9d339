use Rattle.rv_slotcore.proofs.Common.{arith, common_steps}
use Rattle.rv_slotcore.proofs.Updates.{run-append}
use Rattle.rv_slotcore.proofs.Running.{told_more}
use Rattle.rv_slotcore.proofs.machine.Core.run.Goals as goal

pub loop-k-preserved : goal.loop-k-preserved
loop-k-preserved c = grind (arith, common_steps, told_more, run-append)
