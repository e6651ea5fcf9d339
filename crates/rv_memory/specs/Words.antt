-- The words of memory that accesses have, and the bytes that they have together.
use Rattle.std.specs.Prelude.{ℕ, ◌≡◌, ◌≢◌, ◌<◌, ◌≤◌, ◌+◌, ◌%◌, ◌⊎◌, ◌++◌, ◌∷◌, [], List, Contains, length}
use Rattle.std.specs.Prelude.{Option, Some, None, slice_index_or}
use Rattle.rv_memory.specs.declared.words.Word.{Word}
use Rattle.rv_memory.specs.declared.words.WordFault.{WordFault}
use Rattle.rv_memory.specs.declared.words.WordFault.TheVariants.{Misaligned, MixedSizes, Full, NoMemory}

-- accesses are of so many bytes
abbrev pub IsSize : ℕ → Type 0
IsSize n = (n ≡ 1) ⊎ (n ≡ 2) ⊎ (n ≡ 4) ⊎ (n ≡ 8)

-- the address is a multiple of the size
abbrev pub IsAligned : Word → Type 0
IsAligned w = w.address % w.size ≡ 0

-- the byte at this address is one of the word's
abbrev pub HasByte : Word → ℕ → Type 0
HasByte w byte = (w.address ≤ byte) × (byte < w.address + w.size)

-- the words have a byte in common
abbrev pub Meets : Word → Word → Type 0
Meets v w = (byte : ℕ) × HasByte v byte × HasByte w byte

-- none of the words has a byte of this one
abbrev pub IsApart : List Word → Word → Type 0
IsApart words w = (x : Word) → Contains words x → Meets x w → ⊥

-- the word is one of these, at the place of this number, and they stay as they are
pub record IsKnown (old : List Word) (w : Word) (new : List Word) (n : ℕ) : Type 0 where
  pub below : n < length old
  pub there : slice_index_or old n w ≡ w
  pub same : new ≡ old

-- the word comes first: none of these has a byte of it, and it stands behind them
pub record IsAdded (old : List Word) (w : Word) (new : List Word) (n : ℕ) : Type 0 where
  pub apart : IsApart old w
  pub behind : n ≡ length old
  pub added : new ≡ old ++ w ∷ []

-- the word has this number
pub record IsNumbered (old : List Word) (w : Word) (new : List Word) (n : ℕ) : Type 0 where
  pub aligned : IsAligned w
  pub either : IsKnown old w new n ⊎ IsAdded old w new n

-- another word shares bytes with this one; of those it has the lowest address
pub record IsMixed (words : List Word) (w other : Word) : Type 0 where
  pub aligned : IsAligned w
  pub of_list : Contains words other
  pub apart : other ≢ w
  pub meets : Meets other w
  pub lowest : (x : Word) → Contains words x → Meets x w → other.address ≤ x.address

-- why a word gets no number
abbrev pub IsRefused : List Word → Word → WordFault → Type 0
IsRefused words w Misaligned = IsAligned w → ⊥
IsRefused words w (MixedSizes other) = IsMixed words w other
IsRefused words w Full = IsAligned w × IsApart words w × (length words ≡ 4294967295)
IsRefused words w NoMemory = IsAligned w × IsApart words w

-- the number of the word among these, exactly where it is one of them
abbrev pub IsFound : List Word → Word → Option ℕ → Type 0
IsFound words w (Some n) = (n < length words) × (slice_index_or words n w ≡ w)
IsFound words w None = Contains words w → ⊥

-- the word of lowest address that shares bytes with this one, exactly where there is one
abbrev pub IsMet : List Word → Word → Option Word → Type 0
IsMet words w (Some other) =
    Contains words other × Meets other w × ((x : Word) → Contains words x → Meets x w → other.address ≤ x.address)
IsMet words w None = IsApart words w

-- the map has each word's place under its address, and nothing else
pub record AreWords (place_of : ℕ → Option ℕ) (words : List Word) : Type 0 where
  pub few : length words ≤ 4294967295
  pub sized : (x : Word) → Contains words x → IsSize x.size × IsAligned x
  pub placed : (k : ℕ) (d : Word) → k < length words → place_of (slice_index_or words k d).address ≡ Some k
  pub there : (address k : ℕ) (d : Word) → place_of address ≡ Some k →
      (k < length words) × ((slice_index_or words k d).address ≡ address)
