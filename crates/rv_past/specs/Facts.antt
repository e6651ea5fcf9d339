-- What is known of the events that were forgotten, as far as the faults of new events ask. These are
-- this project's own.
use Rattle.std.specs.Prelude.{ℕ, ◌≡◌, ◌≢◌, ◌<◌, ◌≤◌, ◌/◌, ◌%◌, ◌↔◌, ◌||◌, ◌&&◌, ◌==◌, Bool, Contains}
use Rattle.std.specs.Prelude.{IsFalse, IsTrue, List, None, Option, Some, false, length, nat_eq, nat_le, nat_lt, not}
use Rattle.std.specs.Prelude.{slice_index_or}
use Rattle.std.specs.HashMap.{get, spare}
use Rattle.std.specs.HashSet.{contains}
use Rattle.std.specs.HashSet as sets
use Rattle.rv_rows.specs.Bits.{has_bit}
use Rattle.rv_event.specs.Contexts.{is_bad_on}
use Rattle.rv_event.specs.Faults.{can_be_named}
use Rattle.rv_event.specs.Operations.{IsStore}
use Rattle.rv_event.specs.declared.event.Dep.{Dep}
use Rattle.rv_event.specs.declared.event.Entry.{Entry}
use Rattle.rv_event.specs.declared.event.Event.{Event}
use Rattle.rv_event.specs.declared.event.Id.{Id}
use Rattle.rv_past.specs.Gone.{same_version}
use Rattle.rv_past.specs.declared.facts.Facts.{Facts}
use Rattle.rv_past.specs.declared.facts.Misfit.{Misfit}
use Rattle.rv_past.specs.declared.facts.Misfit.TheVariants.{Depends, OtherSource, Taken, TooManyDeps}

-- the block has the number
abbrev pub has_number : Option (List ℕ) → ℕ → Bool
has_number (Some row) n = has_bit row n
has_number None n = false

-- the event of this id returned a value, where the blocks of 4,096 numbers have those that did
abbrev pub is_named : (ℕ × ℕ → Option (List ℕ)) → Id → Bool
is_named values i = has_number (values (i.hart, i.seq / 4096)) (i.seq % 4096)

-- the version up to which each one of a word was written; 0 where none was
abbrev pub last_of : Option ℕ → ℕ
last_of (Some version) = version
last_of None = 0

-- the version was written: it is not above the one up to which each was, or it is one of those above
abbrev pub is_written : (ℕ → Option ℕ) → (ℕ × ℕ → Bool) → ℕ → ℕ → Bool
is_written through above w version = (nat_lt 0 version && nat_le version (last_of (through w))) || above (w, version)

-- the hart's events came from another source
abbrev pub differs : Option ℕ → ℕ → Bool
differs (Some source) s = not (source == s)
differs None s = false

abbrev pub is_other : List (Option ℕ) → Entry → Bool
is_other sources x = differs (slice_index_or sources x.event.id.hart None) x.source

-- one of the entries is a store that wrote this version of the word
pub record IsWrittenBy (gone : List Entry) (of_word version : ℕ) : Type 0 where
  pub store : Entry
  pub of_gone : Contains gone store
  pub is_store : IsStore store.event
  pub word : store.event.word ≡ of_word
  pub wrote : store.event.wrote ≡ version

-- the source of the hart's entries, exactly where there are any
abbrev pub IsSourceOf : List Entry → ℕ → Option ℕ → Type 0
IsSourceOf gone hart (Some source) =
    ((y : Entry) × Contains gone y × (y.event.id.hart ≡ hart))
    × ((y : Entry) → Contains gone y → y.event.id.hart ≡ hart → y.source ≡ source)
IsSourceOf gone hart None = (y : Entry) → Contains gone y → y.event.id.hart ≡ hart → ⊥

-- sources, numbers that returned a value, and versions written are those of the entries
pub record AreFactsBy
    (gone : List Entry) (sources : List (Option ℕ)) (values : ℕ × ℕ → Option (List ℕ)) (written : ℕ → ℕ → Bool)
    : Type 0 where
  pub harts : length sources ≡ 16
  pub source : (hart : ℕ) → IsSourceOf gone hart (slice_index_or sources hart None)
  pub value : (y : Entry) → Contains gone y → is_named values y.event.id ≡ can_be_named y.event.op
  pub none_else : (i : Id) → ((y : Entry) → Contains gone y → y.event.id ≢ i) → is_named values i ≡ false
  pub version : (w version : ℕ) → IsTrue (written w version) ↔ IsWrittenBy gone w version

-- what is known stands for the entries
abbrev pub AreFacts : List Entry → Facts → Type 0
AreFacts gone f =
    AreFactsBy gone f.sources (get same_version f.values)
    (is_written (get nat_eq f.through) (contains same_version f.above))

-- the entry has a number that none of the entries has, and those of its hart came from its source
pub record Follows (gone : List Entry) (x : Entry) : Type 0 where
  pub hart : x.event.id.hart < 16
  pub new : (y : Entry) → Contains gone y → y.event.id ≢ x.event.id
  pub source : (y : Entry) → Contains gone y → y.event.id.hart ≡ x.event.id.hart → y.source ≡ x.source

-- so many entries more can be noted
pub record HasRoom (f : Facts) (more : ℕ) : Type 0 where
  pub values : more ≤ spare f.values
  pub words : more ≤ spare f.through
  pub versions : more ≤ sets.spare f.above

-- the id that a dependency of the event names
abbrev pub named_by : Event → Dep → Id
named_by e d = record { hart = e.id.hart; seq = d.seq }

-- a dependency on an event below this number is bad, where the blocks have those that returned a value
abbrev pub is_bad_in : (ℕ × ℕ → Option (List ℕ)) → ℕ → Event → Dep → Bool
is_bad_in values first e d = nat_lt d.seq first && (not (is_named values (named_by e d)) || is_bad_on e d None)

-- None of the event's dependencies on the entries is bad: below this number its hart's events are among
-- them.
abbrev pub DependsOnValues : List Entry → ℕ → Event → Type 0
DependsOnValues gone first e =
    (d : Dep) (y : Entry) → Contains e.deps d → d.seq < first → Contains gone y → y.event.id ≡ named_by e d →
    IsFalse (is_bad_on e d (Some y.event))

-- one of them is
pub record DependsBadly (gone : List Entry) (first : ℕ) (e : Event) : Type 0 where
  pub dep : Dep
  pub of_event : Contains e.deps dep
  pub before : dep.seq < first
  pub bad : (y : Entry) → Contains gone y → y.event.id ≡ named_by e dep → IsTrue (is_bad_on e dep (Some y.event))

-- the event, where it is a store, has a version that no entry wrote
abbrev pub IsUnwritten : List Entry → Event → Type 0
IsUnwritten gone e = IsStore e → IsWrittenBy gone e.word e.wrote → ⊥

-- the hart's entries came from this entry's source
abbrev pub HasSource : List Entry → Entry → Type 0
HasSource gone x = (y : Entry) → Contains gone y → y.event.id.hart ≡ x.event.id.hart → y.source ≡ x.source

-- an entry fits those that were forgotten, which are those of its hart below this number and others
pub record Fits (gone : List Entry) (first : ℕ) (x : Entry) : Type 0 where
  pub depends : DependsOnValues gone first x.event
  pub free : IsUnwritten gone x.event
  pub source : HasSource gone x
  pub few : length x.event.deps ≤ 8

-- the first thing in which it doesn't
abbrev pub IsMisfit : List Entry → ℕ → Entry → Misfit → Type 0
IsMisfit gone first x Depends = DependsBadly gone first x.event
IsMisfit gone first x Taken =
    DependsOnValues gone first x.event × IsStore x.event × IsWrittenBy gone x.event.word x.event.wrote
IsMisfit gone first x OtherSource =
    DependsOnValues gone first x.event × IsUnwritten gone x.event
    × ((y : Entry) × Contains gone y × (y.event.id.hart ≡ x.event.id.hart) × (y.source ≢ x.source))
IsMisfit gone first x TooManyDeps =
    DependsOnValues gone first x.event × IsUnwritten gone x.event × HasSource gone x × (8 < length x.event.deps)
