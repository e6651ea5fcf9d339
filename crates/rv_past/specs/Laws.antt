-- What the definitions say of a cut's past.
use Rattle.std.specs.Prelude.{◌≡◌, ◌↔◌, Bool, Contains, IsTrue, List, None, Option, Some}
use Rattle.rv_event.specs.Operations.{IsMemory}
use Rattle.rv_event.specs.Relations.{Paired}
use Rattle.rv_event.specs.declared.event.Event.{Event}
use Rattle.rv_settle.specs.Past.{ComesBeforePast}
use Rattle.rv_past.specs.Before.{ComesBefore}

-- the LR of the log with which e is paired, exactly where there is one
abbrev pub IsPartner : List Event → Event → Option Event → Type 0
IsPartner log e (Some r) = Contains log r × Paired log r e × ((lr : Event) → Contains log lr → Paired log lr e → lr ≡ r)
IsPartner log e None = (lr : Event) → Contains log lr → Paired log lr e → ⊥

-- the events are the memory operations of the past
abbrev pub AreOfPast : (Event → Bool) → List Event → Type 0
AreOfPast past gone = (p : Event) → Contains gone p ↔ (IsTrue (past p) × IsMemory p)

-- e comes before the past exactly where it comes before the past's memory operations
abbrev pub VersionsTellThePast : Type 0
VersionsTellThePast =
    (log : List Event) (past : Event → Bool) (gone : List Event) (lr : Option Event) (e : Event) →
    AreOfPast past gone → IsPartner log e lr → ComesBefore gone lr e ↔ ComesBeforePast log past e
