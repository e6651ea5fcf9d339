use Rattle.rv_slotcore.proofs.Wholeness.{start_whole}
use Rattle.rv_slotcore.proofs.machine.Core.new.Goals as goal

pub invariant_of-result : goal.invariant_of-result
invariant_of-result c =
    start_whole c.in_ok-parts.parts c.args.slots c.args.seats c.in_ok-parts.ensures
    c.requires.seats.1
