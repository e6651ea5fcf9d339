-- A graph is the list of its nodes, each the list of the nodes that an edge leads to from it.
use Rattle.std.specs.Prelude.{◌≡◌, ◌≢◌, ℕ, ◌+◌, ◌-◌, ◌<◌, ◌⊎◌, List, [], length, slice_index, slice_index_or}
use Rattle.std.specs.List.{Contains}

-- an edge leads from a to b
abbrev pub Edge : List (List ℕ) → ℕ → ℕ → Type 0
Edge edges a b = Contains (slice_index_or edges a []) b

-- a path of edges, also one of no edge, leads from one node to the other
pub data Reaches (edges : List (List ℕ)) : ℕ → ℕ → Type 0 where
  here : {a : ℕ} → Reaches edges a a
  step : {a b c : ℕ} → Edge edges a b → Reaches edges b c → Reaches edges a c

-- a path of edges from a successor to a predecessor that names no node twice
pub record IsCircle (edges : List (List ℕ)) (preds succs path : List ℕ) : Type 0 where
  pub some : 0 < length path
  pub begins : Contains succs (slice_index path 0)
  pub ends : Contains preds (slice_index path (length path - 1))
  pub steps : (k : ℕ) → k + 1 < length path → Edge edges (slice_index path k) (slice_index path (k + 1))
  pub once : (i j : ℕ) → i < j → j < length path → slice_index path i ≢ slice_index path j

-- a path of edges from a successor to a node that names no node twice
pub record IsTrail (edges : List (List ℕ)) (succs : List ℕ) (end : ℕ) (path : List ℕ) : Type 0 where
  pub some : 0 < length path
  pub begins : Contains succs (slice_index path 0)
  pub ends : slice_index path (length path - 1) ≡ end
  pub steps : (k : ℕ) → k + 1 < length path → Edge edges (slice_index path k) (slice_index path (k + 1))
  pub once : (i j : ℕ) → i < j → j < length path → slice_index path i ≢ slice_index path j

-- the ranks are the numbers below the count of nodes, each once, and each edge goes to a higher
-- rank
pub record IsOrder (edges : List (List ℕ)) (ranks : List ℕ) : Type 0 where
  pub long : length ranks ≡ length edges
  pub below : (a : ℕ) → a < length ranks → slice_index ranks a < length ranks
  pub once : (a b : ℕ) → a < length ranks → b < length ranks → slice_index ranks a ≡ slice_index ranks b → a ≡ b
  pub every : (r : ℕ) → r < length ranks → (a : ℕ) × (a < length ranks) × (slice_index ranks a ≡ r)
  pub forward : (a b : ℕ) → Edge edges a b → slice_index ranks a < slice_index ranks b

-- the graph with one node more, its predecessors and its successors
pub record IsGrown (old new : List (List ℕ)) (preds succs : List ℕ) : Type 0 where
  pub long : length new ≡ length old + 1
  pub kept : (a b : ℕ) → Edge old a b → Edge new a b
  pub before : (a : ℕ) → Contains preds a → Edge new a (length old)
  pub after : (b : ℕ) → Contains succs b → Edge new (length old) b
  pub only : (a b : ℕ) → Edge new a b →
      Edge old a b ⊎ ((b ≡ length old) × Contains preds a) ⊎ ((a ≡ length old) × Contains succs b)
