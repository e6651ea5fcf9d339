use Rattle.std.proofs.Common.{◌≡◌, ◌++◌, ◌+◌, drop, string_bytes}
use Rattle.rv_picture.specs.Arrows.{label_text}
use Rattle.rv_picture.specs.Numbering.{numbered}
use Rattle.rv_picture.proofs.drawing.push_labels.Given as goal

-- the labels that are left are numbered on
abbrev pub invariant-arrows : goal.invariant-arrows
invariant-arrows l =
    string_bytes l.text ++ numbered (label_text l.grid.width) (l.place + 1) (drop l.place l.arrows) ≡
    string_bytes l.fn.text ++ numbered (label_text l.grid.width) 1 l.arrows
