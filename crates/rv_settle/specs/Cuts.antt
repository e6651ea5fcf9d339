-- What a monitor may forget. These are this project's own.
use Rattle.std.specs.Prelude.{AllPairs, ◌≢◌, ◌≡◌, ◌<◌, ◌++◌, Bool, Contains, IsFalse, IsTrue, List}
use Rattle.std.specs.Prelude.{Some, ℕ}
use Rattle.rv_event.specs.Edges.{IsEdge, IsStale}
use Rattle.rv_event.specs.Log.{Earlier, named}
use Rattle.rv_event.specs.Operations.{IsMemory}
use Rattle.rv_event.specs.Orders.{IsOrderOf, place}
use Rattle.rv_event.specs.declared.event.Event.{Event}
use Rattle.rv_event.specs.declared.event.Id.{Id}
use Rattle.rv_event.specs.declared.memory_model.MemoryModel.{MemoryModel}
use Rattle.rv_event.specs.declared.reason.Reason.{Reason}
use Rattle.rv_settle.specs.Settled.{AnyEdge, IsSettled}

-- The past is a beginning of each hart's program order. No edge leads into it from outside, and its
-- memory operations are settled.
pub record IsCut (model : MemoryModel) (log : List Event) (active : List ℕ) (past : Event → Bool) : Type 0 where
  pub of_log : (p : Event) → IsTrue (past p) → Contains log p
  pub begins : (a p : Event) → Contains log a → IsTrue (past p) → Earlier a p → IsTrue (past a)
  pub closed : (a p : Event) → Contains log a → IsTrue (past p) → AnyEdge model log a.id p.id → IsTrue (past a)
  pub settled : (p : Event) → IsTrue (past p) → IsMemory p → IsSettled model log active p

-- each edge between two operations of the list goes forward in it
abbrev pub GoesForward : MemoryModel → List Event → List Id → Type 0
GoesForward model log order =
    (i j : Id) (reason : Reason) → Contains order i → Contains order j → IsEdge model log i reason j →
    place order i < place order j

-- no pair that is kept is stale
abbrev pub NoneStaleKept : List Event → (Event → Bool) → Type 0
NoneStaleKept log past =
    (load store : Id) (stale : IsStale log load store) → IsFalse (past stale.a) → IsFalse (past stale.b) → ⊥

-- the one list has the operations of the past, the other one those that are kept, each once
pub record IsParted (log : List Event) (past : Event → Bool) (first rest : List Id) : Type 0 where
  pub is_order : IsOrderOf log (first ++ rest)
  pub gone : (i : Id) (a : Event) → Contains first i → named log i ≡ Some a → IsTrue (past a)
  pub kept : (i : Id) (a : Event) → Contains rest i → named log i ≡ Some a → IsFalse (past a)

-- the list has each operation that is kept, once, and nothing else
pub record IsOrderOfKept (log : List Event) (past : Event → Bool) (order : List Id) : Type 0 where
  pub each :
      (i : Id) (a : Event) → named log i ≡ Some a → IsMemory a → IsFalse (past a) → Contains order i
  pub nothing_else :
      (i : Id) → Contains order i → (a : Event) × (named log i ≡ Some a) × IsMemory a × IsFalse (past a)
  pub once : AllPairs (λ i j. i ≢ j) order
