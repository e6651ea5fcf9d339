-- Ranks that are mended near one new node.
use Rattle.std.specs.Prelude.{◌≡◌, ℕ, ◌+◌, ◌<◌, ◌≤◌, ◌||◌, Bool, true, false, List, length, slice_index}

-- nodes found backward have lower ranks, before the new node, and nodes found forward have higher
-- ones, after it
pub record IsLocal (back ahead : ℕ → Bool) (low : ℕ) (old new : List ℕ) : Type 0 where
  pub long : length new ≡ length old + 1
  pub below : (a : ℕ) → a < length new → slice_index new a < length new
  pub once : (a b : ℕ) → a < length new → b < length new → slice_index new a ≡ slice_index new b → a ≡ b
  pub every : (r : ℕ) → r < length new → (a : ℕ) × (a < length new) × (slice_index new a ≡ r)
  pub spared : (a : ℕ) → a < length old → (back a || ahead a) ≡ false → slice_index new a ≡ slice_index old a
  pub lower : (a : ℕ) → a < length old → back a ≡ true → slice_index new a < slice_index old a
  pub higher : (a : ℕ) → a < length old → ahead a ≡ true → slice_index old a < slice_index new a
  pub least : (a : ℕ) → a < length old → (back a || ahead a) ≡ true → low ≤ slice_index new a
  pub least_new : low ≤ slice_index new (length old)
  pub front : (a : ℕ) → a < length old → back a ≡ true → slice_index new a < slice_index new (length old)
  pub rear : (a : ℕ) → a < length old → ahead a ≡ true → slice_index new (length old) < slice_index new a
  pub kept_back : (a b : ℕ) → a < length old → b < length old → back a ≡ true → back b ≡ true →
      slice_index old a < slice_index old b → slice_index new a < slice_index new b
  pub kept_ahead : (a b : ℕ) → a < length old → b < length old → ahead a ≡ true → ahead b ≡ true →
      slice_index old a < slice_index old b → slice_index new a < slice_index new b
