use Rattle.std.proofs.Common.{◌≡◌, ◌∷◌, map, string_bytes, take, codes}
use Rattle.std.specs.Prelude.{decimal}
use Rattle.rv_event.specs.Texts.{◌⋯◌}
use Rattle.rv_explain.specs.Telling.{cell_text}
use Rattle.rv_explain.proofs.cells.lines_of.Given as goal

abbrev pub invariant-events : goal.invariant-events
invariant-events l =
    map string_bytes l.lines.items ≡ (codes "hart " ⋯ decimal l.column.hart) ∷
    map (cell_text l.style.names.now l.style.refused l.style.id_width l.style.place_width) (take l.shown-index l.events)
