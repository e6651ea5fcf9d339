use Rattle.std.proofs.Common.{◌≡◌, map, take}
use Rattle.serde_json.specs.View.{view}
use Rattle.rv_explain_json.specs.Explained.{step_data}
use Rattle.rv_explain_json.proofs.explained.step_values.Given as goal

-- those so far
abbrev pub invariant-steps : goal.invariant-steps
invariant-steps l = map view l.values.items ≡ map step_data (take l.step-index l.steps)
