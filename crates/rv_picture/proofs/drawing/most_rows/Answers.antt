use Rattle.std.proofs.Common.{arith, rules}
use Rattle.rv_picture.proofs.Columns.{most-all, most-next}
use Rattle.rv_picture.proofs.drawing.most_rows.Goals as goal

pub columns-preserved : goal.columns-preserved
columns-preserved c =
    most-next _ _ _ c.columns.column-index c.args.columns.now c.column-item.result
    (let low = c.columns-test.true in omega (low, arith)) c.column-item.is c.columns.invariant (search rules)

pub returns : goal.returns
returns c =
    most-all _ _ c.columns.column-index c.args.columns.now
    (λ low. let end = c.columns-test.false in omega (low, end, arith)) c.columns.invariant
