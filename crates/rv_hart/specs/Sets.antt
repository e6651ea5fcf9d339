-- What a hart keeps of its events in rows that grow with them.
use Rattle.std.specs.Prelude.{ℕ, ◌≡◌, ◌<◌, ◌≤◌, ◌↔◌, ◌⊎◌, ◌||◌, List, length, Contains, All, Any, IsTrue, IsFalse}
use Rattle.std.specs.Prelude.{Option, Some, None, [], ◌∷◌, ◌++◌}
use Rattle.rv_event.specs.Operations.{is_exclusive, IsLoad, IsStore, IsMemory}
use Rattle.rv_event.specs.Annotations.{IsAcquire, IsRcsc}
use Rattle.rv_event.specs.Log.{Earlier}
use Rattle.rv_event.specs.Relations.{Behind, DependsOn, fence_orders}
use Rattle.rv_event.specs.declared.event.Dep.{Dep}
use Rattle.rv_event.specs.declared.event.DepKind.{DepKind}
use Rattle.rv_event.specs.declared.event.DepKind.TheVariants.{Addr, Ctrl}
use Rattle.rv_event.specs.declared.event.Event.{Event}
use Rattle.rv_event.specs.declared.event.Op.{Op}
use Rattle.rv_event.specs.declared.event.Op.TheVariants.{Load, Store, Lr, Branch}
use Rattle.rv_rows.specs.Bits.{Has, has_bit}
use Rattle.rv_rows.specs.Closure.{RowHas}
use Rattle.rv_hart.specs.Harts.{Hart, IsHart, Follows, followed}
use Rattle.rv_hart.specs.declared.sets.Sets.{Sets}

-- an event of the list has this number, and this is true of it
pub record HasEvent (P : Event → Type 0) (events : List Event) (s : ℕ) : Type 0 where
  pub a : Event
  pub of_list : Contains events a
  pub at : a.id.seq ≡ s
  pub holds : P a

-- the row has the numbers of the events of which this is true, and no others
abbrev pub RowIs : List ℕ → (Event → Type 0) → List Event → Type 0
RowIs row P events = (s : ℕ) → Has row s ↔ HasEvent P events s

-- the dependency is of this kind, and names a memory operation by this number, where these are the
-- loads and the stores; or it names a carrier whose row has the number
abbrev pub IsNaming : DepKind → List ℕ → List ℕ → List (List ℕ) → ℕ → Dep → Type 0
IsNaming kind loads stores carried s d =
    (d.kind ≡ kind) × (((d.seq ≡ s) × IsTrue (has_bit loads s || has_bit stores s)) ⊎ RowHas carried d.seq s)

-- one of the dependencies does
abbrev pub NamesMemory : DepKind → List Dep → List ℕ → List ℕ → List (List ℕ) → ℕ → Type 0
NamesMemory kind deps loads stores carried s = Any (IsNaming kind loads stores carried s) deps

-- event j is a carrier, and event s a memory operation behind it
pub record IsCarried (events : List Event) (s j : ℕ) : Type 0 where
  pub a : Event
  pub c : Event
  pub a_of_list : Contains events a
  pub c_of_list : Contains events c
  pub a_at : a.id.seq ≡ s
  pub c_at : c.id.seq ≡ j
  pub memory : IsMemory a
  pub behind : Behind events c a

-- the row of each event has the memory operations behind it
pub record AreCarriedRows (events : List Event) (rows : List (List ℕ)) : Type 0 where
  pub long : length events ≤ length rows
  pub says : (j s : ℕ) → j < length events → RowHas rows j s ↔ IsCarried events s j

-- a fence after the event orders it before a later operation of this kind
abbrev pub IsFencedFor : Op → List Event → Event → Type 0
IsFencedFor op events a = Any (λ f. Earlier a f × IsTrue (fence_orders f.op a.op op)) events

-- the event is a memory operation on which a branch depends
abbrev pub IsControlling : List Event → Event → Type 0
IsControlling events a = IsMemory a × Any (λ m. (m.op ≡ Branch) × DependsOn events Ctrl m a) events

-- the event is a memory operation on which an address depends
abbrev pub IsAddressing : List Event → Event → Type 0
IsAddressing events a = IsMemory a × Any (λ m. DependsOn events Addr m a) events

-- the event is an LR after which no LR, SC or failed SC came
abbrev pub IsReserving : List Event → Event → Type 0
IsReserving events a = (a.op ≡ Lr) × All (λ m. Earlier a m → IsFalse (is_exclusive m.op)) events

-- the number of that LR, exactly where there is one
abbrev pub IsReservation : List Event → Option ℕ → Type 0
IsReservation events (Some s) = HasEvent (IsReserving events) events s
IsReservation events None = (a : Event) → Contains events a → IsReserving events a → ⊥

-- each row is that of the hart's events
pub record AreSets (h : Hart) (sets : Sets) : Type 0 where
  pub loads : RowIs sets.loads IsLoad h.events
  pub stores : RowIs sets.stores IsStore h.events
  pub acquires : RowIs sets.acquires (IsAcquire h.model) h.events
  pub rcsc : RowIs sets.rcsc (IsRcsc h.model) h.events
  pub fenced_for_load : RowIs sets.fenced_for_load (IsFencedFor Load h.events) h.events
  pub fenced_for_store : RowIs sets.fenced_for_store (IsFencedFor Store h.events) h.events
  pub controlled : RowIs sets.controlled (IsControlling h.events) h.events
  pub addressed : RowIs sets.addressed (IsAddressing h.events) h.events
  pub reserved : IsReservation h.events sets.reserved

-- the event comes next in a hart with these sets, whose carriers these rows tell, one for each event
pub record IsNextOf (e : Event) (sets : Sets) (rows : List (List ℕ)) : Type 0 where
  pub h : Hart
  pub is_hart : IsHart h
  pub follows : Follows h e
  pub are : AreCarriedRows h.events rows
  pub are_sets : AreSets h sets
  pub one_each : length rows ≡ length h.events

-- one row more, which tells what the event stands for in each such hart
pub record AreCarriedWith (e : Event) (sets : Sets) (rows new : List (List ℕ)) : Type 0 where
  pub last : List ℕ
  pub is_last : new ≡ rows ++ last ∷ []
  pub says : (h : Hart) → IsHart h → Follows h e → AreCarriedRows h.events rows → AreSets h sets →
      (s : ℕ) → Has last s ↔ IsCarried (followed h e) s e.id.seq
