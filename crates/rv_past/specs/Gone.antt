-- What a summary says of the events that were forgotten. These are this project's own.
use Rattle.std.specs.Prelude.{ℕ, ◌≡◌, ◌≢◌, ◌<◌, ◌≤◌, ◌⊎◌, ◌&&◌, ◌==◌, Bool, Contains, List, None, Option, Some}
use Rattle.std.specs.Prelude.{if◌then◌else◌, nat_eq}
use Rattle.std.specs.HashMap.{get, spare}
use Rattle.rv_event.specs.Operations.{IsLoad, IsStore}
use Rattle.rv_event.specs.declared.event.Event.{Event}
use Rattle.rv_event.specs.declared.event.Id.{Id}
use Rattle.rv_event.specs.declared.reason.Reason.TheVariants.{AtomicOut}
use Rattle.rv_past.specs.declared.edge.PastEdge.{PastEdge}
use Rattle.rv_past.specs.declared.past.Newest.{Newest}
use Rattle.rv_past.specs.declared.past.Past.{Past}

-- the same word and version
abbrev pub same_version : ℕ × ℕ → ℕ × ℕ → Bool
same_version x y = nat_eq x.0 y.0 && nat_eq x.1 y.1

-- one of the events is a store of the word by another hart, which wrote this version
pub record IsOfOther (gone : List Event) (of_word hart version : ℕ) : Type 0 where
  pub store : Event
  pub of_gone : Contains gone store
  pub is_store : IsStore store
  pub word : store.word ≡ of_word
  pub other : store.id.hart ≢ hart
  pub wrote : store.wrote ≡ version

-- the newest of the word's stores among the events, and of those of other harts
pub record IsNewestOf (gone : List Event) (of_word : ℕ) (n : Newest) : Type 0 where
  pub store : Event
  pub of_gone : Contains gone store
  pub is_store : IsStore store
  pub word : store.word ≡ of_word
  pub wrote : store.wrote ≡ n.version
  pub id : store.id ≡ n.store
  pub none_newer : (p : Event) → Contains gone p → IsStore p → p.word ≡ of_word → p.wrote ≤ n.version
  pub none_of_others :
      (p : Event) → Contains gone p → IsStore p → p.word ≡ of_word → p.id.hart ≢ n.store.hart → p.wrote ≤ n.others
  pub others : (n.others ≡ 0) ⊎ IsOfOther gone of_word n.store.hart n.others

-- so it is, exactly where one of the events is a store of the word
abbrev pub IsNewest : List Event → ℕ → Option Newest → Type 0
IsNewest gone of_word (Some n) = IsNewestOf gone of_word n
IsNewest gone of_word None = (p : Event) → Contains gone p → IsStore p → p.word ≡ of_word → ⊥

-- the newest version; 0 where none was written
abbrev pub version_of : Option Newest → ℕ
version_of (Some n) = n.version
version_of None = 0

-- one of the events is a load that returned this version of the word; or each that did is of a version
-- that is no newer than the newest one written
abbrev pub IsAwaited : List Event → Option Newest → ℕ → ℕ → Option Id → Type 0
IsAwaited gone newest of_word version (Some i) =
    (p : Event) × Contains gone p × IsLoad p × (p.word ≡ of_word) × (p.read ≡ version) × (p.id ≡ i)
IsAwaited gone newest of_word version None =
    (p : Event) → Contains gone p → IsLoad p → p.word ≡ of_word → p.read ≡ version → version ≤ version_of newest

-- the newest stores by word, and the loads by word and version, are those of the events
pub record AreGoneBy (gone : List Event) (newest : ℕ → Option Newest) (awaited : ℕ × ℕ → Option Id) : Type 0 where
  pub newest_is : (w : ℕ) → IsNewest gone w (newest w)
  pub awaited_is : (w version : ℕ) → IsAwaited gone (newest w) w version (awaited (w, version))

-- the summary stands for the events
abbrev pub AreGone : List Event → Past → Type 0
AreGone gone past = AreGoneBy gone (get nat_eq past.newest) (get same_version past.awaited)

-- so many events more can be taken
pub record HasPlaces (past : Past) (more : ℕ) : Type 0 where
  pub words : more ≤ spare past.newest
  pub loads : more ≤ spare past.awaited

-- the newest version that a store of another hart than this one wrote; 0 where none did
abbrev pub by_others : ℕ → Option Newest → ℕ
by_others hart (Some n) = if n.store.hart == hart then n.others else n.version
by_others hart None = 0

-- this LR returned a version below one that another hart than the event's wrote
abbrev pub IsLate : Past → Event → Option Event → Type 0
IsLate past e (Some r) = r.read < by_others e.id.hart (get nat_eq past.newest r.word)
IsLate past e None = ⊥

-- and this is the edge of the event, an SC, to the newest one of those
abbrev pub IsLateBy : Past → Event → Option Event → PastEdge → Type 0
IsLateBy past e (Some r) edge =
    IsLate past e (Some r)
    × (edge ≡
    record { reason = AtomicOut; word = r.word; version = by_others e.id.hart (get nat_eq past.newest r.word) })
IsLateBy past e None edge = ⊥

-- how what is awaited goes on with e, where this is the newest version of its word: as it was, where e
-- is no load of a newer one; else with the version that it returned
pub data IsNoted (e : Event) (version : ℕ) (old new : ℕ × ℕ → Option Id) : Type 0 where
  as_before :
      (IsLoad e → e.read ≤ version) → ((w v : ℕ) → new (w, v) ≡ old (w, v)) → IsNoted e version old new
  with_load :
      IsLoad e → new (e.word, e.read) ≡ Some e.id →
      ((w v : ℕ) → ((e.word ≡ w) × (e.read ≡ v) → ⊥) → new (w, v) ≡ old (w, v)) → IsNoted e version old new
