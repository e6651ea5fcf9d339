-- The unit does not stand before this place.
use Rattle.std.proofs.Common.{◌≡◌, ℕ, ◌<◌, get_or}
use Rattle.rv_flow.proofs.flow.Flow.place.Given as goal

abbrev pub invariant-loop-place : goal.invariant-loop-place
invariant-loop-place l = (j : ℕ) → j < l.place → get_or l.self.units.items j l.unit ≡ l.unit → ⊥
