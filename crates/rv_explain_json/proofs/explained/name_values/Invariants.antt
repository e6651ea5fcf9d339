use Rattle.std.proofs.Common.{◌≡◌, map, take}
use Rattle.serde_json.specs.View.{view}
use Rattle.rv_explain_json.specs.Explained.{name_data}
use Rattle.rv_explain_json.proofs.explained.name_values.Given as goal

-- those so far
abbrev pub invariant-names : goal.invariant-names
invariant-names l = map view l.values.items ≡ map name_data (take l.name-index l.names)
