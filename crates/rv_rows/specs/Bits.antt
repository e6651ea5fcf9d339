-- Sets of numbers as bits of words.
use Rattle.std.specs.Prelude.{ℕ, Bool, true, false, ◌≡◌, ◌<◌, ◌≤◌, ◌==◌, ◌*◌, ◌/◌, ◌%◌, ◌^◌, List, Option, Some}
use Rattle.std.specs.Prelude.{None, length, slice_index_or}
use Rattle.std.specs.Int.{bit_at}

-- whether the words have the number
abbrev pub has_bit : List ℕ → ℕ → Bool
has_bit words i = bit_at (slice_index_or words (i / 64) 0) (i % 64) == 1

-- the words have the number
abbrev pub Has : List ℕ → ℕ → Type 0
Has words j = has_bit words j ≡ true

-- the highest number of the set, None where it has none
abbrev pub IsHighest : List ℕ → Option ℕ → Type 0
IsHighest words (Some n) = (n < 4096) × (has_bit words n ≡ true) × ((j : ℕ) → n < j → has_bit words j ≡ false)
IsHighest words None = (j : ℕ) → has_bit words j ≡ false

-- there are at most 64 words, and those before the first and from the end on are empty
pub record IsBetween (words : List ℕ) (first end : ℕ) : Type 0 where
  pub few : end ≤ 64
  pub before : (k : ℕ) → k < first → slice_index_or words k 0 ≡ 0
  pub after : (k : ℕ) → end ≤ k → slice_index_or words k 0 ≡ 0

-- the lowest number of the set from this one on, None where it has none
abbrev pub IsFirstFrom : List ℕ → ℕ → Option ℕ → Type 0
IsFirstFrom words from (Some n) =
    (from ≤ n) × Has words n × ((j : ℕ) → from ≤ j → j < n → has_bit words j ≡ false)
IsFirstFrom words from None = (j : ℕ) → from ≤ j → has_bit words j ≡ false

-- each bit has a number, and the words before the first and from the end on are empty
pub record IsUsed (words : List ℕ) (first end : ℕ) : Type 0 where
  pub few : length words * 64 ≤ 2 ^ 64
  pub within : end ≤ length words
  pub before : (k : ℕ) → k < first → slice_index_or words k 0 ≡ 0
  pub after : (k : ℕ) → end ≤ k → slice_index_or words k 0 ≡ 0
