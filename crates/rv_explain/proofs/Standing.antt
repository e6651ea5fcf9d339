-- The reasons that speak of a third event have one.
use Rattle.std.proofs.Common.{ℕ, List, Any, arith}
use Rattle.rv_event.proofs.Growing.{Any-contains, Any-from_contains}
use Rattle.rv_event.specs.Edges.{HasReason}
use Rattle.rv_event.specs.Preserved.{Condition, overlapping_store, different_reads, reads_atomic_write, fenced}
use Rattle.rv_event.specs.Preserved.{after_acquire, before_release, both_rcsc, paired, address, data_of, control}
use Rattle.rv_event.specs.Preserved.{reads_dependent_write, after_dependent_address}
use Rattle.rv_event.specs.declared.event.Event.{Event}
use Rattle.rv_event.specs.declared.memory_model.MemoryModel.{MemoryModel}
use Rattle.rv_event.specs.declared.reason.Reason.{Reason}
use Rattle.rv_event.specs.declared.reason.Reason.TheVariants.{Preserved, Coherence, ReadsFrom, FromRead}
use Rattle.rv_event.specs.declared.reason.Reason.TheVariants.{AtomicIn, AtomicOut}
use Rattle.rv_explain.specs.Laws.{SpeaksOfThird}
use Rattle.rv_explain.specs.Witnesses.{IsRuleWitness, IsWitness, fence, dependent_branch, dependent_write}
use Rattle.rv_explain.specs.Witnesses.{dependent_address}

-- one event for another of the same log
map-any : (P Q : Event → Type 0) (log : List Event) → ((m : Event) → P m → Q m) → Any P log → Any Q log
map-any P Q log map any =
    let found = Any-contains P log any in
    Any-from_contains Q log found.0 found.1 (map found.0 found.2)

-- the rules
rule-stands : (model : MemoryModel) (log : List Event) (a b : Event) (k : ℕ) → Condition model log a b k →
    SpeaksOfThird (Preserved k) → Any (λ m. IsRuleWitness log a b m k) log
rule-stands model log a b _ (fenced h) speaks =
    map-any _ (λ m. IsRuleWitness log a b m 4) log (λ m p. fence (record { between = p.0; orders = p.1 })) h
rule-stands model log a b _ (control store h) speaks =
    map-any _ (λ m. IsRuleWitness log a b m 11) log
    (λ m p. dependent_branch (record { between = p.0; branch = p.1; depends = p.2 })) h
rule-stands model log a b _ (reads_dependent_write h) speaks =
    map-any _ (λ m. IsRuleWitness log a b m 12) log (λ m p. dependent_write p) h.through
rule-stands model log a b _ (after_dependent_address h) speaks =
    map-any _ (λ m. IsRuleWitness log a b m 13) log
    (λ m p. dependent_address (record { between = p.0; depends = p.1 })) h.through
rule-stands model log a b _ (overlapping_store h) speaks = absurd (omega (speaks, arith))
rule-stands model log a b _ (different_reads h) speaks = absurd (omega (speaks, arith))
rule-stands model log a b _ (reads_atomic_write h) speaks = absurd (omega (speaks, arith))
rule-stands model log a b _ (after_acquire h) speaks = absurd (omega (speaks, arith))
rule-stands model log a b _ (before_release h) speaks = absurd (omega (speaks, arith))
rule-stands model log a b _ (both_rcsc g h) speaks = absurd (omega (speaks, arith))
rule-stands model log a b _ (paired h) speaks = absurd (omega (speaks, arith))
rule-stands model log a b _ (address h) speaks = absurd (omega (speaks, arith))
rule-stands model log a b _ (data_of h) speaks = absurd (omega (speaks, arith))

-- all reasons
pub reasons-stand : (model : MemoryModel) (log : List Event) (reason : Reason) (a b : Event) →
    HasReason model log reason a b → SpeaksOfThird reason → Any (IsWitness log reason a b) log
reasons-stand model log (Preserved k) a b has speaks = rule-stands model log a b k has.condition speaks
reasons-stand model log Coherence a b has speaks = absurd speaks
reasons-stand model log ReadsFrom a b has speaks = absurd speaks
reasons-stand model log FromRead a b has speaks = absurd speaks
reasons-stand model log AtomicIn a b has speaks = Any-from_contains (IsWitness log AtomicIn a b) log has.lr has.of_log
    (record { paired = has.paired; is_writer = has.is_writer })
reasons-stand model log AtomicOut a b has speaks = Any-from_contains (IsWitness log AtomicOut a b) log has.lr has.of_log
    (record { paired = has.paired; word = has.word; versions = has.versions })
