-- The row that was set has just the next events.
use Rattle.rv_rows.specs.Bits.{Has}
use Rattle.rv_flow.specs.Flows.{Holds, Next}
use Rattle.rv_flow.proofs.Places.{same-set}
use Rattle.rv_flow.proofs.flow.Flow.set_next.Goals as goal

pub returns-clause-set : goal.returns-clause-set
returns-clause-set c =
    same-set (Holds c.args.self.now) (Holds c.set.new.self) c.args.to (Has c.gather_next.new.row)
    (Next c.args.self.now c.args.step c.args.to) c.gather_next.ensures c.set.ensures.set
