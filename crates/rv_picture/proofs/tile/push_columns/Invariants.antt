use Rattle.std.proofs.Common.{◌≡◌, ◌++◌, drop, string_bytes}
use Rattle.rv_picture.specs.Numbering.{numbered}
use Rattle.rv_picture.specs.Tiles.{column_text}
use Rattle.rv_picture.proofs.tile.push_columns.Given as goal

-- the columns that are left are numbered on
abbrev pub invariant-columns : goal.invariant-columns
invariant-columns l =
    string_bytes l.text
    ++ numbered (column_text l.scene.names.now l.scene.refused l.grid.width) l.number (drop l.number l.columns) ≡
    string_bytes l.fn.text ++ numbered (column_text l.scene.names.now l.scene.refused l.grid.width) 0 l.columns
