-- What the condition of a rule says, at its number.
use Rattle.rv_event.proofs.Common.{common_steps, MemoryModel, ◌<◌, arith, ◌≡◌, ℕ, Bool, List, IsTrue, ◌↔◌}
use Rattle.rv_event.proofs.Common.{IsStore, Paired, Fenced, DependsOn, ControlDependsOn, IsAcquire, IsRelease}
use Rattle.rv_event.proofs.Common.{IsRcsc, Condition, overlapping_store, different_reads, reads_atomic_write}
use Rattle.rv_event.proofs.Common.{fenced, after_acquire, before_release, both_rcsc, paired, address, data_of}
use Rattle.rv_event.proofs.Common.{control, reads_dependent_write, after_dependent_address, OverlappingStore}
use Rattle.rv_event.proofs.Common.{DifferentReads, ReadsAtomicWrite, ReadsDependentWrite, AfterDependentAddress}
use Rattle.rv_event.proofs.Common.{Event, Addr, DataOf}

-- a test of what a rule says is a test of the rule's condition, at its number
at_number : {C : Type 0} (model : MemoryModel) (log : List Event) (a b : Event) (n k : ℕ) (r : Bool) → k ≡ n →
    (C → Condition model log a b n) → (Condition model log a b n → C) → IsTrue r ↔ C → IsTrue r ↔
    Condition model log a b k
at_number model log a b n k r e into out test = grind (arith, common_steps)

-- what the condition of rule 1 says
pub overlapping_store_out : (model : MemoryModel) (log : List Event) (a b : Event) → Condition model log a b 1 →
    OverlappingStore a b
overlapping_store_out model log a b (overlapping_store h) = h

-- a test of rule 1 decides the condition with the number 1
pub overlapping_store_at : (model : MemoryModel) (log : List Event) (a b : Event) (k : ℕ) (r : Bool) → k ≡ 1 →
    IsTrue r ↔ OverlappingStore a b → IsTrue r ↔ Condition model log a b k
overlapping_store_at model log a b k r e test = at_number model log a b 1 k r e overlapping_store
    (overlapping_store_out model log a b) test

-- what the condition of rule 2 says
pub different_reads_out : (model : MemoryModel) (log : List Event) (a b : Event) → Condition model log a b 2 →
    DifferentReads log a b
different_reads_out model log a b (different_reads h) = h

-- so it is of rule 2
pub different_reads_at : (model : MemoryModel) (log : List Event) (a b : Event) (k : ℕ) (r : Bool) → k ≡ 2 → IsTrue r ↔
    DifferentReads log a b → IsTrue r ↔ Condition model log a b k
different_reads_at model log a b k r e test = at_number model log a b 2 k r e different_reads
    (different_reads_out model log a b) test

-- what the condition of rule 3 says
pub reads_atomic_write_out : (model : MemoryModel) (log : List Event) (a b : Event) → Condition model log a b 3 →
    ReadsAtomicWrite a b
reads_atomic_write_out model log a b (reads_atomic_write h) = h

-- so it is of rule 3
pub reads_atomic_write_at : (model : MemoryModel) (log : List Event) (a b : Event) (k : ℕ) (r : Bool) → k ≡ 3 →
    IsTrue r ↔ ReadsAtomicWrite a b → IsTrue r ↔ Condition model log a b k
reads_atomic_write_at model log a b k r e test = at_number model log a b 3 k r e reads_atomic_write
    (reads_atomic_write_out model log a b) test

-- what the condition of rule 4 says
pub fenced_out : (model : MemoryModel) (log : List Event) (a b : Event) → Condition model log a b 4 → Fenced log a b
fenced_out model log a b (fenced h) = h

-- so it is of rule 4
pub fenced_at : (model : MemoryModel) (log : List Event) (a b : Event) (k : ℕ) (r : Bool) → k ≡ 4 → IsTrue r ↔
    Fenced log a b → IsTrue r ↔ Condition model log a b k
fenced_at model log a b k r e test = at_number model log a b 4 k r e fenced (fenced_out model log a b) test

-- what the condition of rule 5 says
pub after_acquire_out : (model : MemoryModel) (log : List Event) (a b : Event) → Condition model log a b 5 →
    IsAcquire model a
after_acquire_out model log a b (after_acquire h) = h

-- so it is of rule 5
pub after_acquire_at : (model : MemoryModel) (log : List Event) (a b : Event) (k : ℕ) (r : Bool) → k ≡ 5 → IsTrue r ↔
    IsAcquire model a → IsTrue r ↔ Condition model log a b k
after_acquire_at model log a b k r e test = at_number model log a b 5 k r e after_acquire
    (after_acquire_out model log a b) test

-- what the condition of rule 6 says
pub before_release_out : (model : MemoryModel) (log : List Event) (a b : Event) → Condition model log a b 6 →
    IsRelease model b
before_release_out model log a b (before_release h) = h

-- so it is of rule 6
pub before_release_at : (model : MemoryModel) (log : List Event) (a b : Event) (k : ℕ) (r : Bool) → k ≡ 6 → IsTrue r ↔
    IsRelease model b → IsTrue r ↔ Condition model log a b k
before_release_at model log a b k r e test = at_number model log a b 6 k r e before_release
    (before_release_out model log a b) test

-- what the condition of rule 7 says
pub both_rcsc_out : (model : MemoryModel) (log : List Event) (a b : Event) → Condition model log a b 7 →
    IsRcsc model a × IsRcsc model b
both_rcsc_out model log a b (both_rcsc g h) = (g, h)

-- so it is of rule 7
pub both_rcsc_at : (model : MemoryModel) (log : List Event) (a b : Event) (k : ℕ) (r : Bool) → k ≡ 7 → IsTrue r ↔
    IsRcsc model a × IsRcsc model b → IsTrue r ↔ Condition model log a b k
both_rcsc_at model log a b k r e test = at_number model log a b 7 k r e (λ c. both_rcsc c.0 c.1)
    (both_rcsc_out model log a b) test

-- what the condition of rule 8 says
pub paired_out : (model : MemoryModel) (log : List Event) (a b : Event) → Condition model log a b 8 → Paired log a b
paired_out model log a b (paired h) = h

-- so it is of rule 8
pub paired_at : (model : MemoryModel) (log : List Event) (a b : Event) (k : ℕ) (r : Bool) → k ≡ 8 → IsTrue r ↔
    Paired log a b → IsTrue r ↔ Condition model log a b k
paired_at model log a b k r e test = at_number model log a b 8 k r e paired (paired_out model log a b) test

-- what the condition of rule 9 says
pub address_out : (model : MemoryModel) (log : List Event) (a b : Event) → Condition model log a b 9 →
    DependsOn log Addr b a
address_out model log a b (address h) = h

-- so it is of rule 9
pub address_at : (model : MemoryModel) (log : List Event) (a b : Event) (k : ℕ) (r : Bool) → k ≡ 9 → IsTrue r ↔
    DependsOn log Addr b a → IsTrue r ↔ Condition model log a b k
address_at model log a b k r e test = at_number model log a b 9 k r e address (address_out model log a b) test

-- what the condition of rule 10 says
pub data_of_out : (model : MemoryModel) (log : List Event) (a b : Event) → Condition model log a b 10 →
    DependsOn log DataOf b a
data_of_out model log a b (data_of h) = h

-- so it is of rule 10
pub data_of_at : (model : MemoryModel) (log : List Event) (a b : Event) (k : ℕ) (r : Bool) → k ≡ 10 → IsTrue r ↔
    DependsOn log DataOf b a → IsTrue r ↔ Condition model log a b k
data_of_at model log a b k r e test = at_number model log a b 10 k r e data_of (data_of_out model log a b) test

-- what the condition of rule 11 says
pub control_out : (model : MemoryModel) (log : List Event) (a b : Event) → Condition model log a b 11 → IsStore b ×
    ControlDependsOn log b a
control_out model log a b (control g h) = (g, h)

-- so it is of rule 11
pub control_at : (model : MemoryModel) (log : List Event) (a b : Event) (k : ℕ) (r : Bool) → k ≡ 11 → IsTrue r ↔
    IsStore b × ControlDependsOn log b a → IsTrue r ↔ Condition model log a b k
control_at model log a b k r e test = at_number model log a b 11 k r e (λ c. control c.0 c.1)
    (control_out model log a b) test

-- what the condition of rule 12 says
pub reads_dependent_write_out : (model : MemoryModel) (log : List Event) (a b : Event) → Condition model log a b 12 →
    ReadsDependentWrite log a b
reads_dependent_write_out model log a b (reads_dependent_write h) = h

-- so it is of rule 12
pub reads_dependent_write_at : (model : MemoryModel) (log : List Event) (a b : Event) (k : ℕ) (r : Bool) → k ≡ 12 →
    IsTrue r ↔ ReadsDependentWrite log a b → IsTrue r ↔ Condition model log a b k
reads_dependent_write_at model log a b k r e test = at_number model log a b 12 k r e reads_dependent_write
    (reads_dependent_write_out model log a b) test

-- what the condition of rule 13 says
pub after_dependent_address_out : (model : MemoryModel) (log : List Event) (a b : Event) → Condition model log a b 13 →
    AfterDependentAddress log a b
after_dependent_address_out model log a b (after_dependent_address h) = h

-- so it is of rule 13
pub after_dependent_address_at : (model : MemoryModel) (log : List Event) (a b : Event) (k : ℕ) (r : Bool) → k ≡ 13 →
    IsTrue r ↔ AfterDependentAddress log a b → IsTrue r ↔ Condition model log a b k
after_dependent_address_at model log a b k r e test = at_number model log a b 13 k r e after_dependent_address
    (after_dependent_address_out model log a b) test

-- there are thirteen rules
pub Condition-number : (model : MemoryModel) (log : List Event) (a b : Event) (k : ℕ) →
    Condition model log a b k → k < 14
Condition-number model log a b k h = grind (arith, common_steps)

-- and none has the number 0
pub Condition-above : (model : MemoryModel) (log : List Event) (a b : Event) (k : ℕ) → Condition model log a b k → 0 < k
Condition-above model log a b k h = grind (arith, common_steps)

-- there are thirteen rules
pub Condition-below : (model : MemoryModel) (log : List Event) (a b : Event) (k : ℕ) → Condition model log a b k →
    k < 14
Condition-below model log a b k h = grind (arith, common_steps)
