-- Edges: pairs of memory operations that stand in one order in every lawful order, each with a
-- reason. After Gibbons and Korach, "Testing shared memories" (1997), over the axioms of the
-- manual's section 14.1.
use Rattle.std.specs.Prelude.{ℕ, ◌<◌, ◌≡◌, ◌≢◌, List, Contains, Some}
use Rattle.rv_event.specs.Operations.{IsLoad, IsStore, IsMemory}
use Rattle.rv_event.specs.Log.{named, writer, Earlier}
use Rattle.rv_event.specs.Relations.{Paired}
use Rattle.rv_event.specs.Preserved.{Rule, IsPreserved}
use Rattle.rv_event.specs.declared.event.Id.{Id}
use Rattle.rv_event.specs.declared.event.Event.{Event}
use Rattle.rv_event.specs.declared.memory_model.MemoryModel.{MemoryModel}
use Rattle.rv_event.specs.declared.reason.Reason.{Reason}
use Rattle.rv_event.specs.declared.reason.Reason.TheVariants.{Preserved, Coherence, ReadsFrom, FromRead}
use Rattle.rv_event.specs.declared.reason.Reason.TheVariants.{AtomicIn, AtomicOut}

-- a store before a store of the same word with a higher version
pub record IsCoherence (a b : Event) : Type 0 where
  pub first : IsStore a
  pub second : IsStore b
  pub word : a.word ≡ b.word
  pub versions : a.wrote < b.wrote

-- the writer of what a load returned, unless it is earlier in program order
pub record IsReadsFrom (log : List Event) (a b : Event) : Type 0 where
  pub load : IsLoad b
  pub is_writer : writer log b.word b.read ≡ Some a
  pub not_earlier : ¬ Earlier a b

-- a load before each other store of its word with a higher version than it returned
pub record IsFromRead (a b : Event) : Type 0 where
  pub load : IsLoad a
  pub store : IsStore b
  pub other : a.id ≢ b.id
  pub word : b.word ≡ a.word
  pub versions : a.read < b.wrote

-- the writer of what a paired LR returned before the SC
pub record IsAtomicIn (log : List Event) (a b : Event) : Type 0 where
  pub lr : Event
  pub of_log : Contains log lr
  pub paired : Paired log lr b
  pub is_writer : writer log lr.word lr.read ≡ Some a

-- the SC before each other hart's store of the LR's word with a higher version than the LR returned
pub record IsAtomicOut (log : List Event) (a b : Event) : Type 0 where
  pub lr : Event
  pub of_log : Contains log lr
  pub paired : Paired log lr a
  pub store : IsStore b
  pub word : b.word ≡ lr.word
  pub other_hart : b.id.hart ≢ a.id.hart
  pub versions : lr.read < b.wrote

-- the reason holds of the two
abbrev pub HasReason : MemoryModel → List Event → Reason → Event → Event → Type 0
HasReason model log (Preserved k) a b = Rule model log k a b
HasReason model log Coherence a b = IsCoherence a b
HasReason model log ReadsFrom a b = IsReadsFrom log a b
HasReason model log FromRead a b = IsFromRead a b
HasReason model log AtomicIn a b = IsAtomicIn log a b
HasReason model log AtomicOut a b = IsAtomicOut log a b

-- an edge between the memory operations that the two ids name
pub record IsEdge (model : MemoryModel) (log : List Event) (from : Id) (reason : Reason) (to : Id) : Type 0 where
  pub a : Event
  pub b : Event
  pub from_named : named log from ≡ Some a
  pub to_named : named log to ≡ Some b
  pub from_memory : IsMemory a
  pub to_memory : IsMemory b
  pub why : HasReason model log reason a b

-- the reason is no rule, or the lowest one that orders the two
abbrev pub IsLowest : MemoryModel → List Event → Id → Reason → Id → Type 0
IsLowest model log from (Preserved k) to = (j : ℕ) → j < k → IsPreserved model log j from to → ⊥
IsLowest model log from Coherence to = Unit {0}
IsLowest model log from ReadsFrom to = Unit {0}
IsLowest model log from FromRead to = Unit {0}
IsLowest model log from AtomicIn to = Unit {0}
IsLowest model log from AtomicOut to = Unit {0}

-- the places of the reasons in their order: the rules by their numbers, 1 to 13, and then these
abbrev pub reason_place : Reason → ℕ
reason_place (Preserved k) = k
reason_place Coherence = 14
reason_place ReadsFrom = 15
reason_place FromRead = 16
reason_place AtomicIn = 17
reason_place AtomicOut = 18

-- for no reason before this one is there an edge between the two
abbrev pub IsFirstReason : MemoryModel → List Event → Id → Reason → Id → Type 0
IsFirstReason model log from reason to =
    (other : Reason) → reason_place other < reason_place reason → IsEdge model log from other to → ⊥

-- a load, and an earlier store of its hart and word with a higher version than the load returned
pub record IsStale (log : List Event) (load store : Id) : Type 0 where
  pub a : Event
  pub b : Event
  pub load_named : named log load ≡ Some a
  pub store_named : named log store ≡ Some b
  pub is_load : IsLoad a
  pub is_store : IsStore b
  pub word : b.word ≡ a.word
  pub earlier : Earlier b a
  pub versions : a.read < b.wrote
