use Rattle.std.proofs.Common.{◌≡◌, map, take}
use Rattle.serde_json.specs.View.{view}
use Rattle.rv_explain_json.specs.Explained.{column_data}
use Rattle.rv_explain_json.proofs.explained.column_values.Given as goal

-- those so far
abbrev pub invariant-columns : goal.invariant-columns
invariant-columns l = map view l.values.items ≡ map column_data (take l.column-index l.columns)
