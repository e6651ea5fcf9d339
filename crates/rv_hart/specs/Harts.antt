-- The events of one hart, and one that may follow them.
use Rattle.std.specs.Prelude.{ℕ, ◌≡◌, List, [], ◌∷◌, ◌++◌, Contains, Option, Some, None}
use Rattle.rv_event.specs.Operations.{IsLoad, IsStore, Returns}
use Rattle.rv_event.specs.Faults.{event_fault}
use Rattle.rv_event.specs.declared.event.Event.{Event}
use Rattle.rv_event.specs.declared.memory_model.MemoryModel.{MemoryModel}

-- a hart: the memory model, its number, and its events in program order
pub record Hart : Type 0 where
  pub model : MemoryModel
  pub number : ℕ
  pub events : List Event

-- the events of the hart and the new one
abbrev pub followed : Hart → Event → List Event
followed h e = h.events ++ e ∷ []

-- the hart with one event more
abbrev pub hart_with : Hart → Event → Hart
hart_with h e = record h { events = followed h e }

-- the event is of the hart, and has no fault over its events
pub record Follows (h : Hart) (e : Event) : Type 0 where
  pub hart : e.id.hart ≡ h.number
  pub sound : event_fault h.events e ≡ None

-- each event of the hart followed those before it
abbrev pub IsHart : Hart → Type 0
IsHart h =
    (before after : List Event) (e : Event) → h.events ≡ before ++ e ∷ after → Follows (record h { events = before }) e

-- the event is a load that returns what this store of the hart wrote
pub record IsOwnStore (h : Hart) (e w : Event) : Type 0 where
  pub of_hart : Contains h.events w
  pub store : IsStore w
  pub load : IsLoad e
  pub returns : Returns e w

-- the number of the hart's store that the event returns, exactly where there is one
abbrev pub IsReturned : Hart → Event → Option ℕ → Type 0
IsReturned h e (Some s) = (w : Event) × IsOwnStore h e w × (w.id.seq ≡ s)
IsReturned h e None = (w : Event) → IsOwnStore h e w → ⊥
