use Rattle.std.proofs.Common.{◌≡◌, length}
use Rattle.serde_json.specs.Data.{no_members}
use Rattle.serde_json.specs.View.{members_view}
use Rattle.rv_coverage_report.specs.JsonData.{counted}
use Rattle.rv_coverage_report.proofs.json_report.counts_value.Given as goal

-- with those that are left the members are those of all
abbrev pub invariant-counts : goal.invariant-counts
invariant-counts l = counted l.rest (members_view l.members.entries) ≡ counted l.counts no_members

abbrev pub decreases-counts : goal.decreases-counts
decreases-counts l = length l.rest
