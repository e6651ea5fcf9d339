use Rattle.std.proofs.Common.{◌≡◌, map, string_bytes, take}
use Rattle.rv_explain.specs.Telling.{id_cell}
use Rattle.rv_explain.proofs.cells.id_cells.Given as goal

abbrev pub invariant-events : goal.invariant-events
invariant-events l = map string_bytes l.cells.items ≡ map id_cell (take l.shown-index l.events)
