use Rattle.std.proofs.Common.{◌≡◌, ◌++◌, drop, string_bytes}
use Rattle.rv_picture.specs.Numbering.{numbered}
use Rattle.rv_picture.specs.Tiles.{tile_in}
use Rattle.rv_picture.proofs.tile.push_tiles.Given as goal

-- the boxes that are left are numbered on
abbrev pub invariant-events : goal.invariant-events
invariant-events l =
    string_bytes l.text
    ++ numbered (tile_in l.scene.names.now l.scene.refused l.grid.width l.column) l.row (drop l.row l.events) ≡
    string_bytes l.fn.text ++ numbered (tile_in l.scene.names.now l.scene.refused l.grid.width l.column) 0 l.events
