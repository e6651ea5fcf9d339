use Rattle.rv_event.proofs.Common.{common_steps, arith}
use Rattle.rv_event.proofs.faults.has_reservation.Goals as goal

pub loop-entry-preserved : goal.loop-entry-preserved
loop-entry-preserved c = grind (arith, common_steps)
