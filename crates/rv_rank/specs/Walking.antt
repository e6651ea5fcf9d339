-- What contracts see of the edges and the visits.
use Rattle.std.specs.Prelude.{◌≡◌, ℕ, List, length}
use Rattle.rv_rank.specs.Graph.{Edge}

-- the kept edges, by node those that they lead to, the nodes visited, the rounds begun, and the
-- room for visits
pub record Walking : Type 0 where
  pub edges : List (List ℕ)
  pub visits : List ℕ
  pub rounds : ℕ
  pub room : ℕ

-- the one table has the other's edges backward
pub record IsMirror (outgoing incoming : List (List ℕ)) : Type 0 where
  pub long : length outgoing ≡ length incoming
  pub back : (a b : ℕ) → Edge outgoing a b → Edge incoming b a
  pub forth : (a b : ℕ) → Edge incoming b a → Edge outgoing a b
