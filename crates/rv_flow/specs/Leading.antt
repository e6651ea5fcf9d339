-- What a unit holds before an instruction, computed step by step.
use Rattle.std.specs.Prelude.{ℕ, List, suc}
use Rattle.rv_insn.specs.Roles.{Carries}
use Rattle.rv_insn.specs.declared.unit.Unit.{Unit}
use Rattle.rv_flow.specs.Dependencies.{IsAt, IsDestination}
use Rattle.rv_flow.specs.declared.step.Step.{Step}

-- what unit u holds before instruction k was computed from what destination s of instruction i got
pub data Leads (steps : List Step) : ℕ → Unit → ℕ → Unit → Type 0 where
  here : {k : ℕ} {x : Step} {u : Unit} → IsAt steps k x → IsDestination x.insn u → Leads steps (suc k) u k u
  on :
      {k i : ℕ} {x : Step} {u p s : Unit} → IsAt steps k x → IsDestination x.insn u → Carries x.insn p u →
      Leads steps k p i s → Leads steps (suc k) u i s
  past :
      {k i : ℕ} {x : Step} {u s : Unit} → IsAt steps k x → (IsDestination x.insn u → ⊥) → Leads steps k u i s →
      Leads steps (suc k) u i s
