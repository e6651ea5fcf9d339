-- The others so far have their rows, and there is room for the rest.
use Rattle.std.proofs.Common.{◌≡◌, ◌+◌, ◌-◌, ℕ, take}
use Rattle.rv_flow.specs.Destinations.{others}
use Rattle.rv_flow.specs.Flows.{HasRoom, Holds, Next}
use Rattle.rv_flow.proofs.Setting.{After}
use Rattle.rv_flow.proofs.flow.Flow.set_others.Given as goal

pub record SetSoFar (l : goal.Live-loop-place) : Type 0 where
  pub room : (more : ℕ) → HasRoom l.fn.self (more + 7) → HasRoom l.self (more + (7 - l.place))
  pub tested : l.self.tested ≡ l.fn.self.tested
  pub after : After (take l.place (others l.fn.step.insn)) (Next l.fn.self l.fn.step) (Holds l.fn.self) (Holds l.self)

abbrev pub invariant-loop-place : goal.invariant-loop-place
invariant-loop-place l = SetSoFar l
