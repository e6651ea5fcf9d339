-- No reason is left, or none before one.
use Rattle.rv_event.proofs.Common.{ℕ, ◌<◌, arith, List, IsEdge, IsPreserved, Id, Event, MemoryModel, Reason, Preserved}
use Rattle.rv_event.proofs.Common.{Coherence, ReadsFrom, FromRead, AtomicIn, AtomicOut}
use Rattle.rv_event.specs.Edges.{reason_place}

-- no rule and no other reason: no edge
pub no_reason : (model : MemoryModel) (log : List Event) (i j : Id) → ((k : ℕ) → IsPreserved model log k i j → ⊥) →
    (IsEdge model log i Coherence j → ⊥) → (IsEdge model log i ReadsFrom j → ⊥) → (IsEdge model log i FromRead j → ⊥) →
    (IsEdge model log i AtomicIn j → ⊥) → (IsEdge model log i AtomicOut j → ⊥) → (r : Reason) →
    IsEdge model log i r j → ⊥
no_reason model log i j p a b c d e (Preserved k) h =
    p k (record { a = h.a; b = h.b; first = h.from_named; second = h.to_named; rule = h.why })
no_reason model log i j p a b c d e Coherence h = a h
no_reason model log i j p a b c d e ReadsFrom h = b h
no_reason model log i j p a b c d e FromRead h = c h
no_reason model log i j p a b c d e AtomicIn h = d h
no_reason model log i j p a b c d e AtomicOut h = e h

-- no reason whose place is below this one
pub none_below : (model : MemoryModel) (log : List Event) (i j : Id) (n : ℕ) →
    ((k : ℕ) → k < n → IsPreserved model log k i j → ⊥) →
    (14 < n → IsEdge model log i Coherence j → ⊥) → (15 < n → IsEdge model log i ReadsFrom j → ⊥) →
    (16 < n → IsEdge model log i FromRead j → ⊥) → (17 < n → IsEdge model log i AtomicIn j → ⊥) → n < 19 →
    (r : Reason) → reason_place r < n → IsEdge model log i r j → ⊥
none_below model log i j n p a b c d few (Preserved k) low h =
    p k low (record { a = h.a; b = h.b; first = h.from_named; second = h.to_named; rule = h.why })
none_below model log i j n p a b c d few Coherence low h = a low h
none_below model log i j n p a b c d few ReadsFrom low h = b low h
none_below model log i j n p a b c d few FromRead low h = c low h
none_below model log i j n p a b c d few AtomicIn low h = d low h
none_below model log i j n p a b c d few AtomicOut low h = omega (arith, few, low)
