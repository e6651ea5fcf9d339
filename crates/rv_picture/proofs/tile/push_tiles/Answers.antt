use Rattle.std.proofs.Common.{arith, string_bytes}
use Rattle.rv_picture.specs.Tiles.{tile_in}
use Rattle.rv_picture.proofs.Numbers.{numbered-all, numbered-next}
use Rattle.rv_picture.proofs.tile.push_tiles.Goals as goal

pub events-preserved : goal.events-preserved
events-preserved c =
    numbered-next (tile_in c.args.scene.names.now c.args.scene.refused c.args.grid.width c.args.column) _
    (string_bytes c.events.text) (string_bytes c.push_tile.new.text)
    c.args.events.now c.events.row c.events.row c.index-events-row.result
    (let low = c.events-test.true in omega (low, arith)) c.index-events-row.is c.events.invariant
    c.in_ok-push_tile.ensures

pub returns : goal.returns
returns c =
    numbered-all (tile_in c.args.scene.names.now c.args.scene.refused c.args.grid.width c.args.column) _ _
    c.args.events.now c.events.row c.events.row
    (λ low. let end = c.events-test.false in omega (low, end, arith)) c.events.invariant
