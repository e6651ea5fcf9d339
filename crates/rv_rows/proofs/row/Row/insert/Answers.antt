use Rattle.std.proofs.Common.{arith, sym}
use Rattle.rv_rows.proofs.Words.{has-set}
use Rattle.rv_rows.proofs.row.Row.insert.Goals as goal

pub returns : goal.returns
returns c j = rw (sym c.self.view_is) (has-set c.self.inside.words c.args.i j (omega (arith, c.self.told)))
