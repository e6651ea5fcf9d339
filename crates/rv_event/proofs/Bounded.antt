-- A well formed log has at most sixteen full harts of events.
use Rattle.rv_event.proofs.Common.{common_steps, ◌≡◌, ℕ, zero, suc, ◌+◌, ◌*◌, ◌<◌, ◌≤◌, Bool, ◌==◌, cond, List}
use Rattle.rv_event.proofs.Common.{[], ◌∷◌, length, Contains, ◌⊎◌, inl, inr, refl, sym, ap, ◌∙◌, arith, eq-eqb}
use Rattle.rv_event.proofs.Common.{cases_eq, ne_eqb, length-map, of_hart, events, WellFormed, Event, Entry}
use Rattle.rv_event.proofs.Names.{Contains-here, Contains-there}
use Rattle.rv_event.proofs.Indexed.{Indexed, indexed_from_WellFormed}

-- the events of the harts below n
count_below : ℕ → List Event → ℕ
count_below zero log = 0
count_below (suc n) log = count_below n log + length (of_hart n log)

length-of_hart-cons : (hart : ℕ) (e : Event) (log : List Event) → length (of_hart hart (e ∷ log)) ≡ cond
    (hart == e.id.hart) 1 0 + length (of_hart hart log)
length-of_hart-cons hart e log = grind (arith, common_steps)

count_below-nil : (n : ℕ) → count_below n [] ≡ 0
unfolding count_below
count_below-nil zero = refl
count_below-nil (suc n) = omega (arith, count_below-nil n)

-- one event more counts once, below any number above its hart
count_below-past : (n : ℕ) (e : Event) (log : List Event) → n ≤ e.id.hart → count_below n (e ∷ log) ≡ count_below n log
unfolding count_below
count_below-past zero e log l = refl
count_below-past (suc n) e log l =
    let below = count_below-past n e log (omega arith) in
    let here : length (of_hart n (e ∷ log)) ≡ length (of_hart n log) =
    grind (arith, common_steps) in
    omega arith

count_below-cons : (n : ℕ) (e : Event) (log : List Event) → e.id.hart < n →
    count_below n (e ∷ log) ≡ count_below n log + 1
unfolding count_below
count_below-cons zero e log l = absurd (omega arith)
count_below-cons (suc n) e log l = go (cases_eq n e.id.hart) (λ m. count_below-cons n e log m)
  where
    go : (n ≡ e.id.hart) ⊎ (n ≡ e.id.hart → ⊥) → (e.id.hart < n → count_below n (e ∷ log) ≡ count_below n log + 1) →
        count_below (suc n) (e ∷ log) ≡ count_below (suc n) log + 1
    go (inl h) again =
        let past = count_below-past n e log (omega arith) in
        let here : length (of_hart n (e ∷ log)) ≡ 1 + length (of_hart n log) = length-of_hart-cons n e log ∙
        ap (λ (b : Bool). cond b 1 0 + length (of_hart n log)) (eq-eqb n e.id.hart h) in
        omega arith
    go (inr h) again =
        let low : e.id.hart < n = omega (arith, h) in
        let before = again low in
        let here : length (of_hart n (e ∷ log)) ≡ length (of_hart n log) = length-of_hart-cons n e log ∙
        ap (λ (b : Bool). cond b 1 0 + length (of_hart n log)) (ne_eqb n e.id.hart h) ∙ omega arith in
        omega arith

count_below-all : (n : ℕ) (log : List Event) → ((e : Event) → Contains log e → e.id.hart < n) →
    length log ≡ count_below n log
count_below-all n [] all = sym (count_below-nil n)
count_below-all n (e ∷ log) all =
    let rest = count_below-all n log (λ a c. all a (Contains-there e log a c)) in
    let more = count_below-cons n e log (all e (Contains-here e log e refl)) in
    omega arith

count_below-le : (n : ℕ) (log : List Event) → ((hart : ℕ) → length (of_hart hart log) ≤ 4096) →
    count_below n log ≤ 4096 * n
unfolding count_below
count_below-le zero log few = omega arith
count_below-le (suc n) log few = omega (arith, few n, count_below-le n log few)

-- a log whose events are indexed has at most 65,536
pub length-Indexed : (log : List Event) → Indexed log → length log ≤ 65536
length-Indexed log known = omega (arith, count_below-all 16 log known.harts, count_below-le 16 log known.few)

-- and so has a well formed one
pub length-WellFormed : (log : List Entry) → WellFormed log → length log ≤ 65536
length-WellFormed log ok = omega (
  arith,
  length-map log (λ (x : Entry). x.event),
  length-Indexed (events log) (indexed_from_WellFormed log ok),
)
