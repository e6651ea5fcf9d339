-- What a flow says of the instructions so far.
use Rattle.std.specs.Prelude.{ℕ, ◌≡◌, ◌≢◌, ◌<◌, ◌+◌, ◌≤◌, ◌↔◌, ◌⊎◌, ◌++◌, ◌∷◌, List, [], Some, IsTrue, length}
use Rattle.std.specs.Prelude.{slice_index_or, vec_capacity}
use Rattle.rv_insn.specs.Roles.{Carries, is_branch}
use Rattle.rv_insn.specs.declared.insn.Insn.{Insn}
use Rattle.rv_insn.specs.declared.unit.Unit.{Unit}
use Rattle.rv_rows.specs.Bits.{Has}
use Rattle.rv_flow.specs.Dependencies.{EventAt, HasControl, IsDestination, IsSource}
use Rattle.rv_flow.specs.Destinations.{IsOther}
use Rattle.rv_flow.specs.Leading.{Leads}
use Rattle.rv_flow.specs.declared.flow.Flow.{Flow}
use Rattle.rv_flow.specs.declared.step.Step.{Step}

-- the unit stands first at this place
pub record IsPlace (units : List Unit) (u : Unit) (k : ℕ) : Type 0 where
  pub within : k < length units
  pub at : slice_index_or units k u ≡ u
  pub first : (j : ℕ) → j < k → slice_index_or units j u ≢ u

-- the unit stands at no place
abbrev pub Lacks : List Unit → Unit → Type 0
Lacks units u = (j : ℕ) → j < length units → slice_index_or units j u ≢ u

-- the row at the unit's place has the event
pub record HoldsIn (units : List Unit) (rows : List (List ℕ)) (u : Unit) (n : ℕ) : Type 0 where
  pub place : ℕ
  pub is_place : IsPlace units u place
  pub has : Has (slice_index_or rows place []) n

-- the flow has the event for the unit
abbrev pub Holds : Flow → Unit → ℕ → Type 0
Holds flow u n = HoldsIn flow.units.items flow.rows.items u n

-- what the unit holds after the instructions was computed from event n
abbrev pub ComesFrom : List Step → Unit → ℕ → Type 0
ComesFrom steps u n = (i : ℕ) × (s : Unit) × Leads steps (length steps) u i s × EventAt steps i n

-- the flow is that of the instructions
pub record IsFlowOf (steps : List Step) (flow : Flow) : Type 0 where
  pub units : (u : Unit) (n : ℕ) → Holds flow u n ↔ ComesFrom steps u n
  pub tested : (n : ℕ) → Has flow.tested n ↔ HasControl steps (length steps) n

-- the list with the hart's next instruction
abbrev pub with_next : List Step → Step → List Step
with_next steps x = steps ++ x ∷ []

-- the row has the events on which this is true of the hart's next instruction, and no others
abbrev pub OfNext : (List Step → ℕ → ℕ → Type 0) → Flow → Insn → List ℕ → Type 0
OfNext Has' flow insn row =
    (steps : List Step) (x : Step) → IsFlowOf steps flow → x.insn ≡ insn → (n : ℕ) →
    Has row n ↔ Has' (with_next steps x) (length steps) n

-- the flow has the same events for each unit
abbrev pub HasSameUnits : Flow → Flow → Type 0
HasSameUnits old new = (u : Unit) (n : ℕ) → Holds new u n ↔ Holds old u n

-- and the same ones on which branches depend
pub record IsSame (old new : Flow) : Type 0 where
  pub units : HasSameUnits old new
  pub tested : new.tested ≡ old.tested

-- the unit has these events, and each other one those that it had
abbrev pub IsSet : Flow → Unit → List ℕ → Flow → Type 0
IsSet old unit row new =
    (u : Unit) (n : ℕ) →
    Holds new u n ↔ (((u ≡ unit) × Has row n) ⊎ ((u ≡ unit → ⊥) × Holds old u n))

-- there is room for so many units more
pub record HasRoom (flow : Flow) (more : ℕ) : Type 0 where
  pub units : length flow.units.items + more ≤ vec_capacity flow.units
  pub rows : length flow.rows.items + more ≤ vec_capacity flow.rows

-- the instruction computes what it puts into the unit from the event: its own, or one from which a unit
-- was computed that it carries from
abbrev pub Next : Flow → Step → Unit → ℕ → Type 0
Next flow step to n =
    (step.event ≡ Some n) ⊎ ((p : Unit) × Carries step.insn p to × Holds flow p n)

-- the unit has these events, and each other one those that it had
abbrev pub IsNextSet : Flow → Step → Unit → Flow → Type 0
IsNextSet old step unit new =
    (u : Unit) (n : ℕ) →
    Holds new u n ↔ (((u ≡ unit) × Next old step unit n) ⊎ ((u ≡ unit → ⊥) × Holds old u n))

-- each destination has these events, and each other unit those that it had
abbrev pub IsAfter : Flow → Step → Flow → Type 0
IsAfter old step new =
    (u : Unit) (n : ℕ) →
    Holds new u n ↔
    ((IsDestination step.insn u × Next old step u n) ⊎ ((IsDestination step.insn u → ⊥) × Holds old u n))

-- so has each destination but rd
abbrev pub IsAfterOthers : Flow → Step → Flow → Type 0
IsAfterOthers old step new =
    (u : Unit) (n : ℕ) →
    Holds new u n ↔ ((IsOther step.insn u × Next old step u n) ⊎ ((IsOther step.insn u → ⊥) × Holds old u n))

-- the branches so far depend on what they did, and the instruction, where it is a branch, on what its
-- sources hold
abbrev pub Tests : Flow → Insn → Flow → Type 0
Tests old insn new =
    (n : ℕ) →
    Has new.tested n ↔
    (Has old.tested n ⊎
    (IsTrue (is_branch insn.operation) × (u : Unit) × IsSource insn u × Holds old u n))
