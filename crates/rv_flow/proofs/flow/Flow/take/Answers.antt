-- rd after the others, and where there is none.
use Rattle.std.proofs.Common.{◌∙◌, sym}
use Rattle.rv_rows.specs.Bits.{Has}
use Rattle.rv_flow.specs.Flows.{Holds, Next}
use Rattle.rv_flow.proofs.Gathering.{none_some}
use Rattle.rv_flow.proofs.Others.{with-rd, without-rd}
use Rattle.rv_flow.proofs.flow.Flow.take.Goals as goal

pub returns-in-Some-clause-after : goal.returns-in-Some-clause-after
returns-in-Some-clause-after c = with-rd c.args.step.insn (Next c.args.self.now c.args.step) (Holds c.args.self.now)
    (Holds c.set_others.new.self) c.set_others.ensures.after (Holds c.set.new.self) c.in-Some.unit
    (rw c.destinations-to.ensures at c.in-Some.is) (Has c.gather_next.new.row) c.gather_next.ensures c.set.ensures.set

pub set-requires : goal.set-requires
set-requires c = c.set_others.ensures.room 1 c.requires.room

pub returns-in-None-clause-after : goal.returns-in-None-clause-after
returns-in-None-clause-after c = without-rd c.args.step.insn (Next c.args.self.now c.args.step)
    (Holds c.args.self.now) (Holds c.set_others-in-None.new.self) c.set_others-in-None.ensures.after
    (λ u is. none_some u (sym (rw c.destinations-to.ensures at c.in-None.is) ∙ is))
