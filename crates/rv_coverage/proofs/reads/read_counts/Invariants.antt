use Rattle.std.proofs.Common.{◌≡◌, map, take}
use Rattle.rv_coverage.specs.Counts.{reads_from}
use Rattle.rv_coverage.proofs.reads.read_counts.Given as goal

-- those so far
abbrev pub invariant-origins : goal.invariant-origins
invariant-origins l = l.counts.items ≡ map (reads_from l.book.log) (take l.origin-index l.origin-items)
