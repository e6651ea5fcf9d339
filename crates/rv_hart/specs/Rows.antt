-- What the rows of a hart say of its events, and which candidates a new event needs.
use Rattle.std.specs.Prelude.{ℕ, ◌≡◌, ◌⊎◌, ◌↔◌, List, Contains}
use Rattle.rv_event.specs.Operations.{IsMemory}
use Rattle.rv_event.specs.Preserved.{Rule}
use Rattle.rv_event.specs.declared.event.Event.{Event}
use Rattle.rv_cover.specs.Paths.{Reaches}
use Rattle.rv_rows.specs.Bits.{Has}
use Rattle.rv_rows.specs.Closure.{RowHas}
use Rattle.rv_hart.specs.Harts.{Hart, followed}

-- event j is a memory operation, and is event s, or rules lead to it from event s
pub record IsBefore (h : Hart) (s j : ℕ) : Type 0 where
  pub a : Event
  pub b : Event
  pub a_of_hart : Contains h.events a
  pub b_of_hart : Contains h.events b
  pub a_at : a.id.seq ≡ s
  pub b_at : b.id.seq ≡ j
  pub memory : IsMemory b
  pub leads : (a ≡ b) ⊎ Reaches h.model h.events a b

-- row j has event j and the events from which rules lead to it; that of an event which is no memory
-- operation is empty
abbrev pub RowsMean : Hart → List (List ℕ) → Type 0
RowsMean h rows = (j s : ℕ) → RowHas rows j s ↔ IsBefore h s j

-- rule k orders event s of the hart before the new one
pub record IsOrderedBy (h : Hart) (e : Event) (k s : ℕ) : Type 0 where
  pub a : Event
  pub of_hart : Contains h.events a
  pub at : a.id.seq ≡ s
  pub rule : Rule h.model (followed h e) k a e

-- some rule does
abbrev pub IsCandidate : Hart → Event → ℕ → Type 0
IsCandidate h e s = (k : ℕ) × IsOrderedBy h e k s

-- the event is a candidate, or rules lead from it to one
pub record IsGenerated (h : Hart) (candidates : List ℕ) (a : Event) : Type 0 where
  pub c : Event
  pub of_hart : Contains h.events c
  pub leads : (a ≡ c) ⊎ Reaches h.model h.events a c
  pub has : Has candidates c.id.seq

-- rules order the candidates before the new event, and each event that a rule orders before it is a
-- candidate or leads to one
pub record IsEnough (h : Hart) (e : Event) (candidates : List ℕ) : Type 0 where
  pub sound : (s : ℕ) → Has candidates s → IsCandidate h e s
  pub enough : (k : ℕ) (a : Event) → Rule h.model (followed h e) k a e → IsGenerated h candidates a
