use Rattle.std.proofs.Common.{ℕ, ◌↔◌, ◌⊎◌, Contains}
use Rattle.rv_rows.specs.Bits.{Has, IsHighest}
use Rattle.rv_flow.proofs.Numbers.{above}
use Rattle.rv_flow.proofs.carriers.numbers_of.Given as goal

-- each number of the set is in the rest, or in the list
pub record Numbered (l : goal.Live-numbers) : Type 0 where
  pub highest : IsHighest l.rest l.latest
  pub known : (n : ℕ) → Has l.set n ↔ (Has l.rest n ⊎ Contains l.numbers.items n)

abbrev pub invariant-numbers : goal.invariant-numbers
invariant-numbers l = Numbered l

abbrev pub decreases-numbers : goal.decreases-numbers
decreases-numbers l = above l.latest
