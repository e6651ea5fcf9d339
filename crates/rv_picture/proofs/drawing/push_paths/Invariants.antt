use Rattle.std.proofs.Common.{◌≡◌, ◌++◌, flat_map, string_bytes, take}
use Rattle.rv_picture.specs.Arrows.{path_text}
use Rattle.rv_picture.proofs.drawing.push_paths.Given as goal

-- the ways so far
abbrev pub invariant-arrows : goal.invariant-arrows
invariant-arrows l =
    string_bytes l.text ≡ string_bytes l.fn.text ++ flat_map (path_text l.grid.width) (take l.arrow-index l.arrows)
