use Rattle.std.proofs.Common.{◌≡◌, Some, map, take}
use Rattle.rv_c.specs.Events.{dep_of}
use Rattle.rv_c.proofs.event.deps_of.Given as goal

-- the first so many
abbrev pub invariant-deps : goal.invariant-deps
invariant-deps l = map dep_of (take l.dep-index l.deps) ≡ map Some l.made
