-- The events of the sources so far that the instruction carries from, and its own.
use Rattle.std.proofs.Common.{◌≡◌, ◌⊎◌, ◌↔◌, ℕ, Contains, Some, take}
use Rattle.rv_insn.specs.Roles.{Carries}
use Rattle.rv_insn.specs.declared.unit.Unit.{Unit}
use Rattle.rv_rows.specs.Bits.{Has}
use Rattle.rv_flow.specs.Flows.{Holds}
use Rattle.rv_flow.proofs.flow.Flow.gather_next.Given as goal

abbrev pub invariant-loop-source : goal.invariant-loop-source
invariant-loop-source l =
    (n : ℕ) →
    Has l.row n ↔ ((l.fn.step.event ≡ Some n) ⊎ ((p : Unit) × Contains (take l.source-index l.source-items) (Some p)
    × Carries l.fn.step.insn p l.fn.to × Holds l.self p n))
