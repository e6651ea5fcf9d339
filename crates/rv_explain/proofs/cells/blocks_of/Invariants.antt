use Rattle.std.proofs.Common.{◌≡◌, map, take}
use Rattle.rv_explain.specs.Layout.{blocks_text}
use Rattle.rv_explain.specs.Telling.{column_lines}
use Rattle.rv_explain.proofs.cells.blocks_of.Given as goal

abbrev pub invariant-columns : goal.invariant-columns
invariant-columns l = blocks_text l.blocks.items ≡ map (column_lines l.names l.refused) (take l.column-index l.columns)
