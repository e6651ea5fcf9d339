-- Preserved program order: the thirteen rules, each over the events of a log and two of them.
-- Manual, section 14.1, "Preserved Program Order"; the rules have the manual's numbers.
use Rattle.std.specs.Prelude.{ℕ, ◌≡◌, ◌≢◌, ◌⊎◌, List, Some, Contains, All, Any}
use Rattle.rv_event.specs.Operations.{IsLoad, IsStore, IsMemory, Returns}
use Rattle.rv_event.specs.Log.{Earlier, Between, named}
use Rattle.rv_event.specs.Annotations.{IsAcquire, IsRelease, IsRcsc}
use Rattle.rv_event.specs.Relations.{Paired, Fenced, DependsOn, ControlDependsOn}
use Rattle.rv_event.specs.declared.event.Id.{Id}
use Rattle.rv_event.specs.declared.event.Event.{Event}
use Rattle.rv_event.specs.declared.event.DepKind.TheVariants.{Addr, DataOf}
use Rattle.rv_event.specs.declared.event.Op.TheVariants.{Sc, Amo}
use Rattle.rv_event.specs.declared.memory_model.MemoryModel.{MemoryModel}

-- 1: b is a store of a's word
pub record OverlappingStore (a b : Event) : Type 0 where
  pub store : IsStore b
  pub word : a.word ≡ b.word

-- 2: both are loads of a word that no store between them writes, and they return different versions
pub record DifferentReads (log : List Event) (a b : Event) : Type 0 where
  pub first : IsLoad a
  pub second : IsLoad b
  pub word : a.word ≡ b.word
  pub versions : a.read ≢ b.read
  pub none_between : All (λ m. Between a m b → IsStore m → m.word ≢ a.word) log

-- 3: a is an AMO or an SC, and b is a load that returns what a wrote
pub record ReadsAtomicWrite (a b : Event) : Type 0 where
  pub atomic : (a.op ≡ Amo) ⊎ (a.op ≡ Sc)
  pub load : IsLoad b
  pub returns : Returns b a

-- m is a store between them whose address or data depends on a, and b returns what m wrote
pub record IsDependentWrite (log : List Event) (a b m : Event) : Type 0 where
  pub between : Between a m b
  pub store : IsStore m
  pub returns : Returns b m
  pub depends : DependsOn log Addr m a ⊎ DependsOn log DataOf m a

-- 12: b is a load that returns what such a store wrote
pub record ReadsDependentWrite (log : List Event) (a b : Event) : Type 0 where
  pub load : IsLoad b
  pub through : Any (IsDependentWrite log a b) log

-- 13: b is a store, and the address of an event between them depends on a
pub record AfterDependentAddress (log : List Event) (a b : Event) : Type 0 where
  pub store : IsStore b
  pub through : Any (λ m. Between a m b × DependsOn log Addr m a) log

-- The condition of each rule, by its number. 4: a fence orders a before b. 5: a has an acquire
-- annotation. 6: b has a release annotation. 7: both have RCsc annotations. 8: a is paired with b.
-- 9, 10: b has an address or a data dependency on a. 11: b is a store with a control dependency on
-- a.
pub data Condition (model : MemoryModel) (log : List Event) (a b : Event) : ℕ → Type 0 where
  overlapping_store : OverlappingStore a b → Condition model log a b 1
  different_reads : DifferentReads log a b → Condition model log a b 2
  reads_atomic_write : ReadsAtomicWrite a b → Condition model log a b 3
  fenced : Fenced log a b → Condition model log a b 4
  after_acquire : IsAcquire model a → Condition model log a b 5
  before_release : IsRelease model b → Condition model log a b 6
  both_rcsc : IsRcsc model a → IsRcsc model b → Condition model log a b 7
  paired : Paired log a b → Condition model log a b 8
  address : DependsOn log Addr b a → Condition model log a b 9
  data_of : DependsOn log DataOf b a → Condition model log a b 10
  control : IsStore b → ControlDependsOn log b a → Condition model log a b 11
  reads_dependent_write : ReadsDependentWrite log a b → Condition model log a b 12
  after_dependent_address : AfterDependentAddress log a b → Condition model log a b 13

-- rule k orders a before b: both are memory operations, a is earlier in program order, and the
-- rule's condition holds
pub record Rule (model : MemoryModel) (log : List Event) (k : ℕ) (a b : Event) : Type 0 where
  pub from : Contains log a
  pub to : Contains log b
  pub from_memory : IsMemory a
  pub to_memory : IsMemory b
  pub earlier : Earlier a b
  pub condition : Condition model log a b k

-- rule k orders the first of the two named events before the second
pub record IsPreserved (model : MemoryModel) (log : List Event) (k : ℕ) (i j : Id) : Type 0 where
  pub a : Event
  pub b : Event
  pub first : named log i ≡ Some a
  pub second : named log j ≡ Some b
  pub rule : Rule model log k a b
