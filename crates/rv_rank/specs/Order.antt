-- Two lists, each the other's inverse.
use Rattle.std.specs.Prelude.{◌≡◌, ℕ, ◌<◌, List, length, slice_index}

-- what a list has at each place is where the other has the place
pub record IsInverse (xs ys : List ℕ) : Type 0 where
  pub long : length xs ≡ length ys
  pub there : (k : ℕ) → k < length xs → (slice_index xs k < length ys) × (slice_index ys (slice_index xs k) ≡ k)
  pub back : (k : ℕ) → k < length ys → (slice_index ys k < length xs) × (slice_index xs (slice_index ys k) ≡ k)
