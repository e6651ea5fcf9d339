-- The table of rules: for each rule the events that it orders before a new one, in two parts.
use Rattle.std.specs.Prelude.{ℕ, ◌≡◌, ◌<◌, ◌⊎◌, ◌↔◌, List, Contains, length, ⊤}
use Rattle.rv_event.specs.Operations.{IsLoad, IsStore, IsMemory}
use Rattle.rv_event.specs.Annotations.{IsAcquire, IsRcsc}
use Rattle.rv_event.specs.Relations.{DependsOn}
use Rattle.rv_event.specs.Preserved.{Condition}
use Rattle.rv_event.specs.declared.event.Event.{Event}
use Rattle.rv_event.specs.declared.event.Op.TheVariants.{Load, Store}
use Rattle.rv_rows.specs.Bits.{Has}
use Rattle.rv_hart.specs.Harts.{Hart, followed}
use Rattle.rv_hart.specs.Sets.{HasEvent, IsFencedFor, IsControlling, IsAddressing}
use Rattle.rv_hart.specs.declared.parts.SetName.{SetName}
use Rattle.rv_hart.specs.declared.parts.SetName.TheVariants as set
use Rattle.rv_hart.specs.declared.parts.Part.{Part}
use Rattle.rv_hart.specs.declared.parts.Part.TheVariants.{Nothing, In, One, Named, NamedBy}

-- the event is one of the set
abbrev pub IsIn : Hart → SetName → Event → Type 0
IsIn h set.Loads a = IsLoad a
IsIn h set.Stores a = IsStore a
IsIn h set.Acquires a = IsAcquire h.model a
IsIn h set.Rcsc a = IsRcsc h.model a
IsIn h set.FencedForLoad a = IsFencedFor Load h.events a
IsIn h set.FencedForStore a = IsFencedFor Store h.events a
IsIn h set.Controlled a = IsControlling h.events a
IsIn h set.Addressed a = IsAddressing h.events a

-- the event is a memory operation, and the condition of the rule holds between it and the new one
abbrev pub IsUnder : Hart → Event → ℕ → Event → Type 0
IsUnder h e k a = IsMemory a × Condition h.model (followed h e) a e k

-- the event is of the part
abbrev pub IsOfPart : Hart → Event → Part → Event → Type 0
IsOfPart h e Nothing a = ⊥
IsOfPart h e (In name) a = IsIn h name a
IsOfPart h e (One s) a = a.id.seq ≡ s
IsOfPart h e (Named kind) a = IsMemory a × DependsOn h.events kind e a
IsOfPart h e (NamedBy s kind) a =
    (w : Event) × Contains h.events w × (w.id.seq ≡ s) × IsMemory a × DependsOn h.events kind w a

-- a number in the part is that of an event
abbrev pub NamesEvents : Hart → Part → Type 0
NamesEvents h (One s) = s < length h.events
NamesEvents h (NamedBy s kind) = s < length h.events
NamesEvents h _ = ⊤

-- the part has the events that the rule orders before the new one, and no others
pub record IsPartFor (h : Hart) (e : Event) (k : ℕ) (part : Part) : Type 0 where
  pub says : (a : Event) → Contains h.events a → IsOfPart h e part a ↔ IsUnder h e k a
  pub names : NamesEvents h part

-- and so have two parts together
pub record ArePartsFor (h : Hart) (e : Event) (k : ℕ) (one other : Part) : Type 0 where
  pub says :
      (a : Event) → Contains h.events a → (IsOfPart h e one a ⊎ IsOfPart h e other a) ↔ IsUnder h e k a
  pub names_one : NamesEvents h one
  pub names_other : NamesEvents h other

-- the new row has what the old one has and the events of the part, and no others
abbrev pub AddsPart : Hart → Event → Part → List ℕ → List ℕ → Type 0
AddsPart h e part old new = (s : ℕ) → Has new s ↔ (Has old s ⊎ HasEvent (IsOfPart h e part) h.events s)
