use Rattle.std.proofs.Common.{◌≡◌, flat_map, map, string_bytes, take}
use Rattle.rv_picture.specs.Tiles.{column_texts}
use Rattle.rv_picture.proofs.tile.texts_of.Given as goal

-- the texts so far
abbrev pub invariant-columns : goal.invariant-columns
invariant-columns l =
    map string_bytes l.texts.items ≡
    flat_map (column_texts l.scene.names.now l.scene.refused) (take l.column-index l.columns)
