use Rattle.std.proofs.Common.{◌≡◌, map, take}
use Rattle.rv_coverage.specs.Counts.{links_by}
use Rattle.rv_coverage.proofs.counting.link_counts.Given as goal

-- those so far
abbrev pub invariant-reasons : goal.invariant-reasons
invariant-reasons l = l.counts.items ≡ map (links_by l.links) (take l.reason-index l.reason-items)
