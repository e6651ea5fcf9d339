use Rattle.std.proofs.Common.{◌≡◌, map, take}
use Rattle.rv_coverage.specs.Counts.{events_of}
use Rattle.rv_coverage.proofs.counting.event_counts.Given as goal

-- those so far
abbrev pub invariant-kinds : goal.invariant-kinds
invariant-kinds l = l.counts.items ≡ map (events_of l.log) (take l.kind-index l.kind-items)
