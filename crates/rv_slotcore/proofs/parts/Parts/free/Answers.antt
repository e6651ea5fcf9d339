use Rattle.rv_slotcore.proofs.Common.{eq-eqb, arith, common_steps}
use Rattle.rv_slotcore.proofs.CoreActs.{went}
use Rattle.rv_slotcore.proofs.parts.Parts.free.Goals as goal

pub returns : goal.returns
returns c = grind (arith, common_steps, eq-eqb, went)
