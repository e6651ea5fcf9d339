use Rattle.std.proofs.Common.{◌≡◌, map, take}
use Rattle.serde_json.specs.View.{view}
use Rattle.rv_coverage_report.specs.JsonData.{wait_data}
use Rattle.rv_coverage_report.proofs.json_report.wait_values.Given as goal

-- those so far
abbrev pub invariant-waits : goal.invariant-waits
invariant-waits l = map view l.values.items ≡ map wait_data (take l.wait-index l.waits)
