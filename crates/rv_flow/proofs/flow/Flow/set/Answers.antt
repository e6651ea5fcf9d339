-- The unit has the row, at its place.
use Rattle.std.proofs.Common.{set}
use Rattle.rv_rows.specs.Bits.{Has}
use Rattle.rv_flow.specs.Flows.{Holds, HoldsIn}
use Rattle.rv_flow.proofs.Places.{same-set, set-at}
use Rattle.rv_flow.proofs.Sets.{has-same}
use Rattle.rv_flow.proofs.flow.Flow.set.Goals as goal

pub returns-in-Some-clause-set : goal.returns-in-Some-clause-set
returns-in-Some-clause-set c =
    same-set (Holds c.args.self.now)
    (HoldsIn c.args.self.now.units.items (set c.args.self.now.rows.items c.in-Some.place c.assign.new.self))
    c.args.unit (Has c.assign.new.self) (Has c.args.row.now)
    (has-same c.assign.new.self c.args.row.now c.assign.ensures)
    (set-at c.args.self.now.units.items c.args.self.now.rows.items c.args.unit c.assign.new.self
    c.args.self.now.same c.in-Some.place c.in-Some.ensures)
