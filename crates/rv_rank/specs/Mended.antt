-- The places of an order that take other nodes.
use Rattle.std.specs.Prelude.{◌≡◌, ◌≢◌, ℕ, zero, suc, ◌<◌, ◌≤◌, Bool, true, false, if◌then◌else◌, List, ◌∷◌}
use Rattle.std.specs.Prelude.{◌++◌, length, take, drop, reverse, slice_index}

-- how many numbers below one pass a test
abbrev pub count_below : (ℕ → Bool) → ℕ → ℕ
count_below test zero = 0
count_below test (suc n) = if test n then suc (count_below test n) else count_below test n

-- the members in their new order: the visits after the first `split`, last one first, the new node,
-- the others
abbrev pub members_of : List ℕ → ℕ → ℕ → List ℕ
members_of visits split node = reverse (drop split visits) ++ node ∷ take split visits

-- the slots below r take the members in their order; all else stays
pub record IsMended (slot : ℕ → Bool) (members nodes ranks new_nodes new_ranks : List ℕ) (r : ℕ) : Type 0 where
  pub long_nodes : length new_nodes ≡ length nodes
  pub long_ranks : length new_ranks ≡ length ranks
  pub filled : (k : ℕ) → k < r → slot k ≡ true →
      (slice_index new_nodes k ≡ slice_index members (count_below slot k)) ×
      (slice_index new_ranks (slice_index members (count_below slot k)) ≡ k)
  pub spared : (k : ℕ) → k < r → slot k ≡ false → slice_index new_nodes k ≡ slice_index nodes k
  pub ahead : (k : ℕ) → r ≤ k → slice_index new_nodes k ≡ slice_index nodes k
  pub others : (a : ℕ) → ((j : ℕ) → j < length members → slice_index members j ≢ a) →
      slice_index new_ranks a ≡ slice_index ranks a
