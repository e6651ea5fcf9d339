use Rattle.std.proofs.Common.{arith, string_bytes}
use Rattle.rv_picture.specs.Tiles.{column_text}
use Rattle.rv_picture.proofs.Numbers.{numbered-all, numbered-next}
use Rattle.rv_picture.proofs.tile.push_columns.Goals as goal

pub columns-preserved : goal.columns-preserved
columns-preserved c =
    numbered-next (column_text c.args.scene.names.now c.args.scene.refused c.args.grid.width) _
    (string_bytes c.columns.text) (string_bytes c.push_column.new.text)
    c.args.columns.now c.columns.number c.columns.number c.index-columns-number.result
    (let low = c.columns-test.true in omega (low, arith)) c.index-columns-number.is c.columns.invariant
    c.in_ok-push_column.ensures

pub returns : goal.returns
returns c =
    numbered-all (column_text c.args.scene.names.now c.args.scene.refused c.args.grid.width) _ _
    c.args.columns.now c.columns.number c.columns.number
    (λ low. let end = c.columns-test.false in omega (low, end, arith)) c.columns.invariant
