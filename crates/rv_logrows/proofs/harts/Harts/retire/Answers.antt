use Rattle.rv_logrows.proofs.Placed.{one-changed}
use Rattle.rv_logrows.proofs.harts.Harts.retire.Goals as goal
use Rattle.rv_logrows.specs.Harts.{Retires}

pub returns-in-Ok-clause-retired : goal.returns-in-Ok-clause-retired
returns-in-Ok-clause-retired c = one-changed (Retires c.args.instruction.now c.args.word c.args.log_row)
    c.args.self.now.all.items c.args.instruction.now.hart c.index_mut.result.now c.retire.new.self c.requires.harts
    c.if-instruction-gt15.false c.index_mut.ensures.value (c.retire.ensures.hart, c.in-Ok.ensures.retired)
