use Rattle.std.proofs.Common.{◌≡◌, take}
use Rattle.std.specs.List.{flat_map}
use Rattle.rv_coverage.specs.Waits.{waits_of}
use Rattle.rv_coverage.proofs.waiting.first_waits.Given as goal

-- those of the harts so far
abbrev pub invariant-harts : goal.invariant-harts
invariant-harts l = l.waits.items ≡ flat_map (waits_of l.book.log) (take l.hart-index l.hart-items)
