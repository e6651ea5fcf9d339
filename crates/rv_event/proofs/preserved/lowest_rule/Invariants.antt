use Rattle.rv_event.proofs.Common.{ℕ, ◌<◌, events, IsPreserved}
use Rattle.rv_event.proofs.preserved.lowest_rule.Given as goal

-- no rule below k
abbrev pub invariant-loop-k : goal.invariant-loop-k
invariant-loop-k l = (j : ℕ) → j < l.k → IsPreserved l.model (events l.log) j l.a l.b → ⊥
