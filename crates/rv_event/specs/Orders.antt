-- Global memory orders, and what the memory model asks of one. Manual, section 14.1, "Memory Model
-- Axioms": load value and atomicity. That stores of one word stand by version is how this project's
-- traces record the order of writes. The progress axiom holds of every finite order. A load whose
-- version has no known writer yet is held to the first part of its axiom alone.
use Rattle.std.specs.Prelude.{ℕ, suc, zero, ◌<◌, ◌≤◌, ◌≡◌, ◌≢◌, ◌⊎◌, List, [], ◌∷◌, Some, Contains, AllPairs}
use Rattle.std.specs.Prelude.{if◌then◌else◌}
use Rattle.rv_event.specs.Operations.{IsLoad, IsStore, IsMemory}
use Rattle.rv_event.specs.Log.{same_id, named, writer, Earlier}
use Rattle.rv_event.specs.Relations.{Paired}
use Rattle.rv_event.specs.Preserved.{Rule}
use Rattle.rv_event.specs.declared.event.Id.{Id}
use Rattle.rv_event.specs.declared.event.Event.{Event}
use Rattle.rv_event.specs.declared.memory_model.MemoryModel.{MemoryModel}

-- the place of an id in an order, or the order's length
abbrev pub place : List Id → Id → ℕ
place [] i = zero
place (j ∷ order) i = if same_id i j then zero else suc (place order i)

-- a stands before b in the order
abbrev pub Before : List Id → Event → Event → Type 0
Before order a b = place order a.id < place order b.id

-- the id names a memory operation
pub record IsOperation (log : List Event) (i : Id) : Type 0 where
  pub event : Event
  pub is_named : named log i ≡ Some event
  pub is_memory : IsMemory event

-- each memory operation of the log once, and nothing else
pub record IsOrderOf (log : List Event) (order : List Id) : Type 0 where
  pub each : (i : Id) → IsOperation log i → Contains order i
  pub nothing_else : (i : Id) → Contains order i → IsOperation log i
  pub once : AllPairs (λ i j. i ≢ j) order

-- preserved program order is kept
abbrev pub KeepsProgramOrder : MemoryModel → List Event → List Id → Type 0
KeepsProgramOrder model log order = (k : ℕ) (a b : Event) → Rule model log k a b → Before order a b

-- stores of one word stand by version
abbrev pub KeepsVersions : List Event → List Id → Type 0
KeepsVersions log order =
    (a b : Event) → Contains log a → Contains log b → IsStore a → IsStore b →
    a.word ≡ b.word → a.wrote < b.wrote → Before order a b

-- a store of the load's word before it in the order or in program order
pub record Candidate (log : List Event) (order : List Id) (load store : Event) : Type 0 where
  pub of_log : Contains log store
  pub is_store : IsStore store
  pub word : store.word ≡ load.word
  pub visible : Before order store load ⊎ Earlier store load

-- no candidate is newer than what the load returned, and its writer, where known, is one
pub record HasLoadValue (log : List Event) (order : List Id) (load : Event) : Type 0 where
  pub none_newer : (store : Event) → Candidate log order load store → store.wrote ≤ load.read
  pub from_writer : (store : Event) → writer log load.word load.read ≡ Some store → Candidate log order load store

-- between what a paired LR returned and its SC no other hart's store of the LR's word stands
pub record IsAtomic (log : List Event) (order : List Id) (lr sc : Event) : Type 0 where
  pub after_writer : (store : Event) → writer log lr.word lr.read ≡ Some store → Before order store sc
  pub before_others :
      (store : Event) → Contains log store → IsStore store → store.word ≡ lr.word →
      store.id.hart ≢ sc.id.hart → lr.read < store.wrote → Before order sc store

-- a global memory order that the model allows for this log
pub record Lawful (model : MemoryModel) (log : List Event) (order : List Id) : Type 0 where
  pub is_order : IsOrderOf log order
  pub program_order : KeepsProgramOrder model log order
  pub write_order : KeepsVersions log order
  pub load_values : (load : Event) → Contains log load → IsLoad load → HasLoadValue log order load
  pub atomicity :
      (lr sc : Event) → Contains log lr → Contains log sc → Paired log lr sc → IsAtomic log order lr sc
