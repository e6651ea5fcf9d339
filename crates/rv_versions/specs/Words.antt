-- The accesses of each word in its place.
use Rattle.std.specs.Prelude.{ℕ, ◌≡◌, ◌<◌, List, [], length, Contains, Option, Some, slice_index_or}
use Rattle.std.specs.List.{flat_map}
use Rattle.rv_versions.specs.Accesses.{AreAllOf}
use Rattle.rv_versions.specs.declared.accesses.Access.{Access}
use Rattle.rv_versions.specs.declared.accesses.Accesses.{Accesses}

abbrev pub no_accesses : Accesses
no_accesses = record { stores = []; loads = []; pairs = [] }

-- those of all words together
abbrev pub together : List Accesses → Accesses
together words = record {
  stores = flat_map (λ w. w.stores) words;
  loads = flat_map (λ w. w.loads) words;
  pairs = flat_map (λ w. w.pairs) words;
}

-- a word's number is that of a place, and no other word has it
pub record AreNumbers (place_of : ℕ → Option ℕ) (count : ℕ) : Type 0 where
  pub known : (word place : ℕ) → place_of word ≡ Some place → place < count
  pub apart : (word other place : ℕ) → place_of word ≡ Some place → place_of other ≡ Some place → word ≡ other

-- of these accesses each stands at the place of its word
abbrev pub StandInPlace : (ℕ → Option ℕ) → (Accesses → List Access) → List Accesses → Type 0
StandInPlace place_of these words =
    (place : ℕ) (x : Access) → Contains (these (slice_index_or words place no_accesses)) x →
    place_of x.word ≡ Some place

-- each word has at most one place, and each access stands at that of its word
pub record AreInPlace (place_of : ℕ → Option ℕ) (words : List Accesses) : Type 0 where
  pub numbers : AreNumbers place_of (length words)
  pub stores : StandInPlace place_of (λ w. w.stores) words
  pub loads : StandInPlace place_of (λ w. w.loads) words
  pub pairs : StandInPlace place_of (λ w. w.pairs) words

-- of all accesses those to the word, and no others
pub record AreThoseTo (all : Accesses) (word : ℕ) (accesses : Accesses) : Type 0 where
  pub stores : AreAllOf all.stores word accesses.stores
  pub loads : AreAllOf all.loads word accesses.loads
  pub pairs : AreAllOf all.pairs word accesses.pairs
