-- Rows one after the other in one list of words. Of each the words that it shares with the stem
-- are left out, and empty ones behind these and at its end.
use Rattle.std.specs.Prelude.{ℕ, ◌≡◌, ◌<◌, ◌≤◌, ◌+◌, ◌-◌, ◌*◌, ◌++◌, ◌∷◌, [], List, length, take, drop, map}
use Rattle.std.specs.Prelude.{replicate, All, slice_index_or}
use Rattle.std.specs.List.{AllPairs}
use Rattle.rv_rows.specs.Bits.{has_bit}
use Rattle.rv_rows.specs.declared.rows.Place.{Place}

-- the words from place n on, with empty ones before them
abbrev pub shifted : ℕ → List ℕ → List ℕ
shifted n words = replicate n 0 ++ words

-- the words that are kept of the row at the place
abbrev pub part_at : List ℕ → Place → List ℕ
part_at words p = take p.count (drop p.start words)

-- the words of the stem that the row at the place shares
abbrev pub beginning_at : List ℕ → Place → List ℕ
beginning_at stem p = take p.shared stem

-- the words of the row at the place
abbrev pub row_at : List ℕ → List ℕ → Place → List ℕ
row_at stem words p = beginning_at stem p ++ shifted (p.first - p.shared) (part_at words p)

-- the rows at the places
unfoldable pub rows_of : List ℕ → List ℕ → List Place → List (List ℕ)
rows_of stem words places = map (row_at stem words) places

-- the place lies within the stem and the words, and its row within the 64 words of a set
pub record IsWithin (stem words : List ℕ) (p : Place) : Type 0 where
  pub shared : p.shared ≤ length stem
  pub behind : p.shared ≤ p.first
  pub kept : p.start + p.count ≤ length words
  pub few : p.first + p.count ≤ 64

-- there are at most 4,096 places within the stem and the words, one after the other, none of more
-- than 64 words
pub record AreLaid (stem words : List ℕ) (places : List Place) : Type 0 where
  pub few : length places ≤ 4096
  pub within : All (IsWithin stem words) places
  pub apart : AllPairs (λ p q. p.start + p.count ≤ q.start) places
  pub early : (k : ℕ) (d : Place) → k < length places → (slice_index_or places k d).start ≤ 64 * k
  pub short : length words ≤ 64 * length places
  pub small : length stem ≤ 64

-- one row more, which has what the set has
pub record IsPushed (rows : List (List ℕ)) (row : List ℕ) (new : List (List ℕ)) : Type 0 where
  pub last : List ℕ
  pub is_last : new ≡ rows ++ last ∷ []
  pub same : (j : ℕ) → has_bit last j ≡ has_bit row j
