-- What the indexes of a log have.
use Rattle.std.specs.Prelude.{ℕ, ◌≡◌, ◌≢◌, ◌↔◌, ◌⊎◌, List, length, Contains, Option, Some, None, option_map}
use Rattle.std.specs.Prelude.{if◌then◌else◌}
use Rattle.std.specs.List.{zip}
use Rattle.rv_event.specs.Operations.{is_load, is_store}
use Rattle.rv_event.specs.Relations.{Paired}
use Rattle.rv_event.specs.WellFormed.{WellFormedEvents}
use Rattle.rv_event.specs.declared.event.Event.{Event}
use Rattle.rv_event.specs.declared.event.Id.{Id}
use Rattle.rv_versions.specs.Accesses.{access}
use Rattle.rv_versions.specs.Words.{AreThoseTo}
use Rattle.rv_versions.specs.declared.accesses.Access.{Access}
use Rattle.rv_versions.specs.declared.accesses.Accesses.{Accesses}
use Rattle.rv_versions.specs.declared.accesses.Postings.{Postings}
use Rattle.rv_versions.specs.declared.reservation.Reservation.{Reservation}

-- a store stands under the version that it wrote
abbrev pub store_of : Event → Option Access
store_of e = if is_store e.op then Some (access e.word e.wrote e.id) else None

-- a load stands under the version that it returned
abbrev pub load_of : Event → Option Access
load_of e = if is_load e.op then Some (access e.word e.read e.id) else None

-- an SC stands under what its LR returned
abbrev pub pair_of : Event → Option Reservation → Option Access
pair_of e reserved = option_map (λ r. access r.word r.version e.id) reserved

abbrev pub postings_of : Event → Option Reservation → Postings
postings_of e reserved = record { store = store_of e; load = load_of e; pair = pair_of e reserved }

-- those of them to its own word
abbrev pub own_postings : Event → Postings
own_postings e = record { store = store_of e; load = load_of e; pair = None }

-- the one of an SC to its LR's word
abbrev pub pair_postings : Id → Reservation → Postings
pair_postings sc r = record { store = None; load = None; pair = Some (access r.word r.version sc) }

-- all of them are to the word
pub record ArePostingsTo (word : ℕ) (p : Postings) : Type 0 where
  pub store : (x : Access) → p.store ≡ Some x → x.word ≡ word
  pub load : (x : Access) → p.load ≡ Some x → x.word ≡ word
  pub pair : (x : Access) → p.pair ≡ Some x → x.word ≡ word

-- the access was put in, where there is one
abbrev pub IsInserted : List Access → Option Access → List Access → Type 0
IsInserted old posting new = (x : Access) → Contains new x ↔ (Contains old x ⊎ (posting ≡ Some x))

-- the access was taken out, where there is one
abbrev pub IsRemoved : List Access → Option Access → List Access → Type 0
IsRemoved old posting new = (x : Access) → Contains new x ↔ (Contains old x × (posting ≢ Some x))

-- the same accesses
abbrev pub IsSame : List Access → List Access → Type 0
IsSame old new = (x : Access) → Contains new x ↔ Contains old x

-- stores, loads and pairs each went from the old to the new in this way, by their posting
pub record ByEach
    (Goes : List Access → Option Access → List Access → Type 0)
    (old : Accesses) (p : Postings) (new : Accesses) : Type 0 where
  pub stores : Goes old.stores p.store new.stores
  pub loads : Goes old.loads p.load new.loads
  pub pairs : Goes old.pairs p.pair new.pairs

abbrev pub AreInserted : Accesses → Postings → Accesses → Type 0
AreInserted old p new = ByEach IsInserted old p new

abbrev pub AreRemoved : Accesses → Postings → Accesses → Type 0
AreRemoved old p new = ByEach IsRemoved old p new

abbrev pub AreSame : Accesses → Postings → Accesses → Type 0
AreSame old p new = ByEach (λ xs _ ys. IsSame xs ys) old p new

-- none of the postings stands among them
abbrev pub AreAbsent : Accesses → Postings → Type 0
AreAbsent old p = ByEach (λ xs posting _. (x : Access) → posting ≡ Some x → Contains xs x → ⊥) old p old

-- the accesses are the postings of the items
abbrev pub IsIndex : {X : Type 0} → (X → Option Access) → List X → List Access → Type 0
IsIndex {X} post items accesses = (x : Access) → Contains accesses x ↔ ((i : X) × Contains items i × (post i ≡ Some x))

-- the LR is one of the log, and is paired with the SC
pub record IsPair (log : List Event) (lr sc : Event) : Type 0 where
  pub of_log : Contains log lr
  pub paired : Paired log lr sc

-- what the event's LR returned, exactly where the event is paired with one
abbrev pub IsReservation : List Event → Event → Option Reservation → Type 0
IsReservation log e (Some r) = (lr : Event) × IsPair log lr e × (lr.word ≡ r.word) × (lr.read ≡ r.version)
IsReservation log e None = (lr : Event) → IsPair log lr e → ⊥

-- events beside what their LRs returned
abbrev pub beside : List Event → List (Option Reservation) → List (Event × Option Reservation)
beside log reserved = zip log reserved

-- the log has no faults, and the indexes have its stores, loads and pairs
pub record AreIndexes (log : List Event) (reserved : List (Option Reservation)) (indexes : Accesses) : Type 0 where
  pub well_formed : WellFormedEvents log
  pub as_long : length log ≡ length reserved
  pub reservations :
      (e : Event) (r : Option Reservation) → Contains (beside log reserved) (e, r) → IsReservation log e r
  pub stores : IsIndex store_of log indexes.stores
  pub loads : IsIndex load_of log indexes.loads
  pub pairs : IsIndex (λ p. pair_of p.0 p.1) (beside log reserved) indexes.pairs

-- the log's accesses to the word: of what its indexes have those to the word, and no others
pub record AreOfWord (log : List Event) (word : ℕ) (accesses : Accesses) : Type 0 where
  pub reserved : List (Option Reservation)
  pub indexes : Accesses
  pub known : AreIndexes log reserved indexes
  pub all : AreThoseTo indexes word accesses
