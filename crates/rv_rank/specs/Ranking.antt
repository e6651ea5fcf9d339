-- What contracts see of an order keeper.
use Rattle.std.specs.Prelude.{ℕ, List}

-- the kept edges, by node those that they lead to, the ranks by node, the last round's visits, the
-- rounds begun
pub record Ranking : Type 0 where
  pub edges : List (List ℕ)
  pub ranks : List ℕ
  pub visits : List ℕ
  pub rounds : ℕ
