use Rattle.rv_slotcore.proofs.Wholeness.{same_whole}
use Rattle.rv_slotcore.proofs.machine.Core.copy.Goals as goal

pub invariant_of-result : goal.invariant_of-result
invariant_of-result c =
    same_whole c.self.inside.parts c.in_ok-parts.parts c.in_ok-parts.ensures c.self.invariant
