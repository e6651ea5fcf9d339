-- The memory operations of each word of a hart, linked from the last one back.
use Rattle.std.specs.Prelude.{ℕ, ◌≡◌, ◌<◌, ◌≤◌, List, Contains, Option, Some, None, length, slice_index_or}
use Rattle.rv_rows.specs.NumberMaps.{number_of}
use Rattle.rv_event.specs.Operations.{IsMemory, IsStore}
use Rattle.rv_event.specs.declared.event.Event.{Event}
use Rattle.rv_hart.specs.Sets.{HasEvent}
use Rattle.rv_hart.specs.declared.words.WordLink.{WordLink}
use Rattle.rv_hart.specs.declared.words.Words.{Words}

-- each event of the list stands at the place of its number
abbrev pub AreNumbered : List Event → Type 0
AreNumbered events = (s : ℕ) (d : Event) → s < length events → (slice_index_or events s d).id.seq ≡ s

-- the event is a memory operation of the word
abbrev pub IsOfWord : ℕ → Event → Type 0
IsOfWord word a = IsMemory a × (a.word ≡ word)

-- the number is above the other one, where there is one
abbrev pub IsAbove : Option ℕ → ℕ → Type 0
IsAbove (Some p) n = p < n
IsAbove None n = Unit {0}

-- the number, where there is one, is that of a memory operation of the word, and below the limit
abbrev pub NamesOfWord : List Event → ℕ → ℕ → Option ℕ → Type 0
NamesOfWord events word limit (Some p) = (p < limit) × HasEvent (IsOfWord word) events p
NamesOfWord events word limit None = Unit {0}

-- the last memory operation of the word below the limit, exactly where there is one
pub record IsLastBelow (events : List Event) (word limit : ℕ) (last : Option ℕ) : Type 0 where
  pub names : NamesOfWord events word limit last
  pub none_later : (m : Event) → Contains events m → IsOfWord word m → IsAbove last m.id.seq → m.id.seq < limit → ⊥

-- between the number and the event the word has only loads that returned what the event returned
pub record IsBeforeRun (events : List Event) (a : Event) (before : Option ℕ) : Type 0 where
  pub names : NamesOfWord events a.word a.id.seq before
  pub run :
      (m : Event) → Contains events m → IsOfWord a.word m → IsAbove before m.id.seq → m.id.seq < a.id.seq →
      (IsStore m → ⊥) × (m.read ≡ a.read)

-- each store of the word with a number below the limit wrote at most this version
abbrev pub IsUpTo : List Event → ℕ → ℕ → ℕ → Type 0
IsUpTo events word limit version =
    (m : Event) → Contains events m → IsStore m → m.word ≡ word → m.id.seq < limit → m.wrote ≤ version

-- the word's store of the highest version, among those with a number below the limit, exactly where
-- there is one
abbrev pub IsHighestStore : List Event → ℕ → ℕ → Option ℕ → Type 0
IsHighestStore events word limit (Some p) =
    (p < limit) × HasEvent (λ w. IsStore w × (w.word ≡ word) × IsUpTo events word limit w.wrote) events p
IsHighestStore events word limit None =
    (m : Event) → Contains events m → IsStore m → m.word ≡ word → m.id.seq < limit → ⊥

-- the link of a memory operation
pub record IsWordLink (events : List Event) (a : Event) (l : WordLink) : Type 0 where
  pub previous : IsLastBelow events a.word a.id.seq l.previous
  pub before_run : IsBeforeRun events a l.before_run
  pub highest : IsHighestStore events a.word a.id.seq l.highest

-- the link at a place
abbrev pub link_at : List WordLink → ℕ → WordLink
link_at links s = slice_index_or links s (record { previous = None; before_run = None; highest = None })

-- each word's last memory operation, and a link for each event
pub record AreWords (events : List Event) (words : Words) : Type 0 where
  pub lasts : (word : ℕ) → IsLastBelow events word (length events) (number_of words.lasts word)
  pub links : (a : Event) → Contains events a → IsMemory a → IsWordLink events a (link_at words.links.items a.id.seq)
  pub count : length words.links.items ≡ length events
