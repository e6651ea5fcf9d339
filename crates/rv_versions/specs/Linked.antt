-- Which accesses are linked with a new event: for each reason those of some versions of a word's
-- stores, loads or pairs.
use Rattle.std.specs.Prelude.{ℕ, ◌≡◌, ◌≢◌, ◌<◌, ◌≤◌, ◌↔◌, ◌++◌, List, Contains, Option, Some, None, option_map}
use Rattle.std.specs.Prelude.{if◌then◌else◌}
use Rattle.rv_event.specs.Operations.{is_load, is_store}
use Rattle.rv_event.specs.declared.event.Event.{Event}
use Rattle.rv_event.specs.declared.event.Id.{Id}
use Rattle.rv_event.specs.declared.reason.Link.{Link}
use Rattle.rv_event.specs.declared.reason.Reason.{Reason}
use Rattle.rv_event.specs.declared.reason.Reason.TheVariants.{Preserved, Coherence, ReadsFrom, FromRead}
use Rattle.rv_event.specs.declared.reason.Reason.TheVariants.{AtomicIn, AtomicOut}
use Rattle.rv_versions.specs.Accesses.{id_of, IsNearestBelow, IsNearestAbove}
use Rattle.rv_versions.specs.Indexes.{AreOfWord}
use Rattle.rv_versions.specs.Lookups.{IsUnparted}
use Rattle.rv_versions.specs.declared.accesses.Access.{Access}
use Rattle.rv_versions.specs.declared.accesses.Accesses.{Accesses}
use Rattle.rv_versions.specs.declared.reservation.Reservation.{Reservation}
use Rattle.rv_versions.specs.declared.versions.links.Interval.{Interval}

abbrev pub link : Id → Reason → Link
link i reason = record { id = i; reason = reason }

-- behind the old links the new list has one to the event of each of these accesses, and no other
pub record IsExtended (old new : List Link) (reason : Reason) (IsMeant : Access → Type 0) : Type 0 where
  pub others : List Link
  pub behind : new ≡ old ++ others
  pub meant : (l : Link) → Contains others l ↔ ((x : Access) × IsMeant x × (l ≡ link (id_of x) reason))

-- the interval has the version
abbrev pub Covers : Interval → ℕ → Type 0
Covers i v = (i.from ≤ v) × (v < i.to)

-- the version that the event wrote, if it stores
abbrev pub stored : Event → Option ℕ
stored e = if is_store e.op then Some e.wrote else None

-- the version that it returned, if it loads
abbrev pub returned : Event → Option ℕ
returned e = if is_load e.op then Some e.read else None

-- the version that its LR returned, if it has one
abbrev pub held : Option Reservation → Option ℕ
held reserved = option_map (λ r. r.version) reserved

-- the version stands from one on and below another, where there is that
abbrev pub IsBelow : ℕ → Option ℕ → ℕ → Type 0
IsBelow low version v = (n : ℕ) × (version ≡ Some n) × (low ≤ v) × (v < n)

-- the version stands above one, where there is that, and before the end
abbrev pub IsAbove : Option ℕ → ℕ → ℕ → Type 0
IsAbove version end v = (n : ℕ) × (version ≡ Some n) × (n < v) × (v < end)

-- The accesses that come before the event: of its own word, and of the word of its LR.
abbrev pub ComesBefore : (own lr : Accesses) → Event → Option Reservation → (low unparted : ℕ) → Reason → Access →
    Type 0
ComesBefore own lr e reserved low unparted Coherence x = Contains own.stores x × IsBelow low (stored e) x.version
ComesBefore own lr e reserved low unparted ReadsFrom x =
    Contains own.stores x × (returned e ≡ Some x.version) × (x.hart ≢ e.id.hart)
ComesBefore own lr e reserved low unparted FromRead x = Contains own.loads x × IsBelow low (stored e) x.version
ComesBefore own lr e reserved low unparted AtomicIn x = Contains lr.stores x × (held reserved ≡ Some x.version)
ComesBefore own lr e reserved low unparted AtomicOut x =
    Contains own.pairs x × IsBelow unparted (stored e) x.version × (x.hart ≢ e.id.hart)
ComesBefore own lr e reserved low unparted (Preserved k) x = ⊥

-- The accesses that come after it.
abbrev pub ComesAfter : (own lr : Accesses) → Event → Option Reservation → (next above foreign : ℕ) → Reason → Access →
    Type 0
ComesAfter own lr e reserved next above foreign Coherence x =
    Contains own.stores x × IsAbove (stored e) next x.version
ComesAfter own lr e reserved next above foreign ReadsFrom x = Contains own.loads x × (stored e ≡ Some x.version)
ComesAfter own lr e reserved next above foreign FromRead x =
    Contains own.stores x × IsAbove (returned e) above x.version
ComesAfter own lr e reserved next above foreign AtomicIn x = Contains own.pairs x × (stored e ≡ Some x.version)
ComesAfter own lr e reserved next above foreign AtomicOut x =
    Contains lr.stores x × IsAbove (held reserved) foreign x.version × (x.hart ≢ e.id.hart)
ComesAfter own lr e reserved next above foreign (Preserved k) x = ⊥

-- each link is to the event of an access that is meant for its reason, and each of these is linked
pub record AreLinked (IsMeant : Reason → Access → Type 0) (links : List Link) : Type 0 where
  pub only : (l : Link) → Contains links l → (x : Access) × IsMeant l.reason x × (l.id ≡ id_of x)
  pub each : (reason : Reason) (x : Access) → IsMeant reason x → Contains links (link (id_of x) reason)

-- the accesses to the event's word, and to that of its LR
pub record AreTheirs (log : List Event) (e : Event) (reserved : Option Reservation) (own lr : Accesses) : Type 0 where
  pub of_own : AreOfWord log e.word own
  pub of_lr : (r : Reservation) → reserved ≡ Some r → AreOfWord log r.word lr

-- the links are those into the event, down to the next lower store and to where SCs are parted from it
pub record AreBefore (log : List Event) (e : Event) (reserved : Option Reservation) (links : List Link) : Type 0 where
  pub own : Accesses
  pub lr : Accesses
  pub theirs : AreTheirs log e reserved own lr
  pub low : ℕ
  pub is_low : (n : ℕ) → stored e ≡ Some n → IsNearestBelow own.stores n low
  pub unparted : ℕ
  pub is_unparted : (n : ℕ) → stored e ≡ Some n → IsUnparted own e.id.hart n unparted
  pub linked : AreLinked (ComesBefore own lr e reserved low unparted) links

-- the links are those out of it, up to the next higher stores
pub record AreAfter (log : List Event) (e : Event) (reserved : Option Reservation) (links : List Link) : Type 0 where
  pub own : Accesses
  pub lr : Accesses
  pub theirs : AreTheirs log e reserved own lr
  pub next : ℕ
  pub is_next : (n : ℕ) → stored e ≡ Some n → IsNearestAbove own.stores None n next
  pub above : ℕ
  pub is_above : (n : ℕ) → returned e ≡ Some n → IsNearestAbove own.stores None n above
  pub foreign : ℕ
  pub is_foreign : (n : ℕ) → held reserved ≡ Some n → IsNearestAbove lr.stores (Some e.id.hart) n foreign
  pub linked : AreLinked (ComesAfter own lr e reserved next above foreign) links
