use Rattle.std.proofs.Common.{◌≡◌, ◌++◌, flat_map, map, string_bytes, take}
use Rattle.rv_picture.specs.Tiles.{event_texts}
use Rattle.rv_picture.proofs.tile.push_texts.Given as goal

-- the texts so far
abbrev pub invariant-events : goal.invariant-events
invariant-events l =
    map string_bytes l.texts.items ≡
    map string_bytes l.fn.texts.items
    ++ flat_map (event_texts l.scene.names.now l.scene.refused) (take l.shown-index l.events)
