use Rattle.rv_slotcore.proofs.Wholeness.{step_keeps_whole}
use Rattle.rv_slotcore.proofs.machine.Core.step.Goals as goal

pub invariant_of-self : goal.invariant_of-self
invariant_of-self c =
    step_keeps_whole c.self.inside.parts c.step.new.self c.args.step.seat c.args.step.act
    c.step.result c.self.invariant c.step.ensures.ok c.step.ensures.err
