use Rattle.rv_settle.specs.Windows.{deps_from}
use Rattle.std.proofs.Common.{take, ◌≡◌}
use Rattle.rv_endless.proofs.window.renumber_deps.Given as goal

abbrev pub invariant-loop-dep : goal.invariant-loop-dep
invariant-loop-dep l = l.kept ≡ deps_from l.first (take l.dep-index l.deps)
