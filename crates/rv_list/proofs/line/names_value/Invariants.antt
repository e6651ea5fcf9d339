use Rattle.std.proofs.Common.{◌≡◌, map, string_bytes, take}
use Rattle.serde_json.specs.Data.{string}
use Rattle.serde_json.specs.View.{view}
use Rattle.rv_list.proofs.line.names_value.Given as goal

-- the names so far
abbrev pub invariant-names : goal.invariant-names
invariant-names l = map view l.values.items ≡ map string (map string_bytes (take l.name-index l.names))
