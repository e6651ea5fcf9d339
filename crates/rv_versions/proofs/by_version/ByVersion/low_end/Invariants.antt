use Rattle.std.proofs.Common.{◌≤◌, ◌-◌}
use Rattle.rv_versions.proofs.by_version.ByVersion.low_end.Given as goal

abbrev pub invariant-back : goal.invariant-back
invariant-back l = 1 ≤ l.step

abbrev pub decreases-back : goal.decreases-back
decreases-back l = l.count - l.step
