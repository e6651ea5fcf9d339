use Rattle.std.proofs.Common.{◌≡◌, ◌++◌, length, map}
use Rattle.serde_json.specs.View.{view}
use Rattle.rv_report.specs.JsonData.{walk_data}
use Rattle.rv_report.proofs.json_report.edge_values.Given as goal

abbrev pub invariant-edges : goal.invariant-edges
invariant-edges l = map view l.edges.items ++ walk_data l.rest l.end ≡ walk_data l.steps l.end

abbrev pub decreases-edges : goal.decreases-edges
decreases-edges l = length l.rest
