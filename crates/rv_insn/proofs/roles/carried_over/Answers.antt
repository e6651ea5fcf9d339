-- The list is that of the listing.
use Rattle.rv_insn.proofs.Carried.{over-given}
use Rattle.rv_insn.proofs.roles.carried_over.Goals as goal

pub returns : goal.returns
returns c = over-given c.args.insn c.args.to c.is_raised-is_flag.result c.is_carried_rd.result
    c.is_raised-is_flag.ensures (rw c.requires at c.is_carried_rd.ensures) c.args.usage c.requires
    c.read_if-first.result c.read_if-second.result c.read_if-third.result c.unit_if-mode.result c.unit_if-own.result
    c.read_if-first.ensures c.read_if-second.ensures c.read_if-third.ensures c.unit_if-mode.ensures
    c.unit_if-own.ensures
