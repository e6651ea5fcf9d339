-- Rows among bytes.
use Rattle.std.specs.Prelude.{ℕ, ◌≡◌, ◌<◌, ◌≤◌, ◌⊎◌, Bool, ◌||◌, ◌==◌, List, drop, false, length}
use Rattle.std.specs.Prelude.{slice_index_or, take}
use Rattle.std.specs.List.{list_any, prefix_len}

-- whether a byte ends a line: a line feed or a carriage return
abbrev pub is_line_end : ℕ → Bool
is_line_end byte = (byte == 10) || (byte == 13)

-- a row stands in the bytes: some line feed is behind a byte that ends no line
pub record HasRow (bytes : List ℕ) : Type 0 where
  pub first : ℕ
  pub last : ℕ
  pub order : first < last
  pub within : last < length bytes
  pub begun : is_line_end (slice_index_or bytes first 0) ≡ false
  pub ended : slice_index_or bytes last 0 ≡ 10

-- so many bytes go to the end of the first row: the fewest that have a row, or all where they have none
pub record IsRowEnd (bytes : List ℕ) (count : ℕ) : Type 0 where
  pub within : count ≤ length bytes
  pub least : (fewer : ℕ) → fewer < count → HasRow (take fewer bytes) → ⊥
  pub whole : (count ≡ length bytes) ⊎ HasRow (take count bytes)

-- whether a line feed stands behind the line ends that the bytes begin with
abbrev pub has_feed : List ℕ → Bool
has_feed bytes = list_any (λ byte. byte == 10) (drop (prefix_len is_line_end bytes) bytes)
