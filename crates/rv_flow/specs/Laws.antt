-- The chapter's relation, and what registers hold.
use Rattle.std.specs.Prelude.{ℕ, ◌↔◌, List}
use Rattle.rv_insn.specs.declared.unit.Unit.{Unit}
use Rattle.rv_flow.specs.Dependencies.{DependsVia, IsAt, IsSource}
use Rattle.rv_flow.specs.Leading.{Leads}
use Rattle.rv_flow.specs.declared.step.Step.{Step}

-- instruction j depends on instruction i by r and s exactly where r is a source of j that holds,
-- before j, what was computed from what s got
abbrev pub DependenciesLead : Type 0
DependenciesLead =
    (steps : List Step) (j i : ℕ) (x : Step) (r s : Unit) → IsAt steps j x →
    DependsVia steps j r i s ↔ (IsSource x.insn r × Leads steps j r i s)
