-- For each rule the events that it orders before a new one.
use Rattle.std.specs.Prelude.{ℕ, ◌≡◌, ◌≢◌, ◌<◌, ◌⊎◌, ◌↔◌, List, Contains, Option, Some, None}
use Rattle.rv_event.specs.Operations.{IsLoad, IsMemory, IsStore}
use Rattle.rv_event.specs.Preserved.{Condition, Rule}
use Rattle.rv_event.specs.declared.event.Event.{Event}
use Rattle.rv_rows.specs.Bits.{Has}
use Rattle.rv_rows.specs.Closure.{RowHas}
use Rattle.rv_hart.specs.Harts.{Hart, followed}
use Rattle.rv_hart.specs.Rows.{IsOrderedBy, IsGenerated}
use Rattle.rv_hart.specs.Words.{IsOfWord}

-- the row has only events that the rule orders before the new one, and the others lead to these
pub record IsLeadingRow (h : Hart) (e : Event) (k : ℕ) (row : List ℕ) : Type 0 where
  pub sound : (s : ℕ) → Has row s → IsOrderedBy h e k s
  pub enough : (a : Event) → Rule h.model (followed h e) k a e → IsGenerated h row a

-- no event of the set has the number in its row, but for that with the number itself
abbrev pub IsApart : List (List ℕ) → List ℕ → ℕ → Type 0
IsApart rows set n = (c : ℕ) → Has set c → RowHas rows c n → c ≡ n

-- the new event is a load, event s a load of its word that returned another version, and behind it
-- the word has only loads that returned what the new event returns
pub record IsLastOther (h : Hart) (e : Event) (s : ℕ) : Type 0 where
  pub loads : IsLoad e
  pub a : Event
  pub of_hart : Contains h.events a
  pub at : a.id.seq ≡ s
  pub load : IsLoad a
  pub word : a.word ≡ e.word
  pub other : a.read ≢ e.read
  pub alike :
      (m : Event) → Contains h.events m → IsOfWord e.word m → s < m.id.seq → (IsStore m → ⊥) × (m.read ≡ e.read)

-- the new row has what the old one has and the events that the rule orders before the new one, and
-- no others
abbrev pub Adds : Hart → Event → ℕ → List ℕ → List ℕ → Type 0
Adds h e k old new = (s : ℕ) → Has new s ↔ (Has old s ⊎ IsOrderedBy h e k s)

-- the event is a memory operation of the hart
pub record IsOperationOf (h : Hart) (a : Event) : Type 0 where
  pub of_hart : Contains h.events a
  pub memory : IsMemory a

-- the condition of the rule holds between the event and the new one
abbrev pub ConditionOf : Hart → Event → ℕ → Event → Type 0
ConditionOf h e k a = Condition h.model (followed h e) a e k

-- the lowest of the rules below `limit` whose condition holds between the event and the new one
abbrev pub IsLowestBelow : Hart → Event → Event → ℕ → Option ℕ → Type 0
IsLowestBelow h e a limit (Some k) =
    (k < limit) × ConditionOf h e k a × ((j : ℕ) → j < k → ConditionOf h e j a → ⊥)
IsLowestBelow h e a limit None = (j : ℕ) → j < limit → ConditionOf h e j a → ⊥

-- the rule orders event s before the new one, and no lower one does
pub record IsLowestRule (h : Hart) (e : Event) (s k : ℕ) : Type 0 where
  pub ordered : IsOrderedBy h e k s
  pub lowest : (j : ℕ) → j < k → IsOrderedBy h e j s → ⊥
