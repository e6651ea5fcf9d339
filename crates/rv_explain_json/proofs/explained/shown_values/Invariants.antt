use Rattle.std.proofs.Common.{◌≡◌, map, take}
use Rattle.serde_json.specs.View.{view}
use Rattle.rv_explain_json.specs.Explained.{shown_data}
use Rattle.rv_explain_json.proofs.explained.shown_values.Given as goal

-- those so far
abbrev pub invariant-events : goal.invariant-events
invariant-events l = map view l.values.items ≡ map shown_data (take l.shown-index l.events)
