use Rattle.std.proofs.Common.{◌≡◌, ◌++◌, take}
use Rattle.rv_commits.specs.Rows.{parts_of}
use Rattle.rv_commits.proofs.deps.add_parts.Given as goal

abbrev pub invariant-parts : goal.invariant-parts
invariant-parts l = l.deps.items ≡ l.initial.deps.items ++ parts_of l.kind (take l.part-index l.parts)
