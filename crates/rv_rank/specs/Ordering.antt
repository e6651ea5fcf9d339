-- What contracts see of the two tables of an order.
use Rattle.std.specs.Prelude.{ℕ, List}

-- the nodes by rank, the ranks by node, and how many nodes there is room for
pub record Ordering : Type 0 where
  pub nodes : List ℕ
  pub ranks : List ℕ
  pub room : ℕ
