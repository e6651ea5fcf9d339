use Rattle.std.proofs.Common.{take}
use Rattle.rv_hart.proofs.DependencyRows.{AddsNamed}
use Rattle.rv_hart.proofs.sets.add_dependencies.Given as goal

abbrev pub invariant-loop-dep : goal.invariant-loop-dep
invariant-loop-dep l =
    AddsNamed l.kind l.loads l.stores l.carried (take l.dep-index l.dep-items) l.initial.row l.row
