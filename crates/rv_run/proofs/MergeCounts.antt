-- What is counted over a log is the same for each merge of its sources.
use Rattle.rv_run.proofs.Common.{common_steps, rules, ◌≡◌, ℕ, suc, zero, ◌+◌, ◌<◌, ◌≤◌, ◌==◌, ◌⊎◌, Bool, true}
use Rattle.rv_run.proofs.Common.{false, cond, ◌&&◌, not, List, [], ◌∷◌, length, All, find, None, Some, count_by}
use Rattle.rv_run.proofs.Common.{inl, inr, refl, sym, ap, ◌∙◌, arith, eq-eqb, eqb-true, cases_lt, false≢true}
use Rattle.rv_run.proofs.Common.{All-head, All-tail, is_count_by, is_none, events, did_write, writer, is_load}
use Rattle.rv_run.proofs.Common.{is_memory, from_source, SameSources, Event, Entry, operations_of, waiting_of}
use Rattle.rv_run.proofs.Common.{is_waiting}
use Rattle.rv_run.proofs.Merges.{apart}

-- the weights of the entries, and the sum of the first numbers of a function
abbrev weight : (Entry → ℕ) → List Entry → ℕ
weight h [] = 0
weight h (x ∷ xs) = h x + weight h xs

abbrev total : ℕ → (ℕ → ℕ) → ℕ
total zero f = 0
total (suc n) f = total n f + f n

total-same : (n : ℕ) (f g : ℕ → ℕ) → ((j : ℕ) → j < n → f j ≡ g j) → total n f ≡ total n g
total-same zero f g same = refl
total-same (suc n) f g same =
    ap (λ (k : ℕ). k + f n) (total-same n f g (λ j low. same j (omega (arith, low)))) ∙
    ap (λ (k : ℕ). total n g + k) (same n (omega arith))

total-zero : (n : ℕ) → total n (λ j. 0) ≡ 0
total-zero zero = refl
total-zero (suc n) = omega (arith, total-zero n)

total-add : (n : ℕ) (f g : ℕ → ℕ) → total n (λ j. f j + g j) ≡ total n f + total n g
total-add zero f g = omega arith
total-add (suc n) f g = omega (arith, total-add n f g)

one-last : (n s v : ℕ) (b : Bool) → (n == s) ≡ b → s < suc n → (s < n → total n (λ j. cond (j == s) v 0) ≡ v) →
    total n (λ j. cond (j == s) v 0) + cond (n == s) v 0 ≡ v
one-last n s v true is low before =
    let last : n ≡ s = eqb-true n s is in
    let none : total n (λ j. cond (j == s) v 0) ≡ 0 = total-same n (λ j. cond (j == s) v 0) (λ j. 0)
    (λ j below. ap (λ (b : Bool). cond b v 0) (apart j s (λ same. absurd (omega (arith, same, below, last))))) ∙
    total-zero n in
    let sum : 0 + v ≡ v = omega arith in
    ap (λ (b : Bool). total n (λ j. cond (j == s) v 0) + cond b v 0) is ∙ ap (λ (k : ℕ). k + v) none ∙ sum
one-last n s v false is low before =
    let sum : v + 0 ≡ v = omega arith in
    ap (λ (b : Bool). total n (λ j. cond (j == s) v 0) + cond b v 0) is ∙
    ap (λ (k : ℕ). k + 0) (before (sooner (cases_lt s n))) ∙ sum
  where
    sooner : (s < n) ⊎ (n ≤ s) → s < n
    sooner (inl below) = below
    sooner (inr above) = let same : n ≡ s = omega (arith, above, low) in absurd (false≢true (sym is ∙ eq-eqb n s same))

total-one : (n s v : ℕ) → s < n → total n (λ j. cond (j == s) v 0) ≡ v
total-one zero s v low = absurd (omega (arith, low))
total-one (suc n) s v low = one-last n s v (n == s) refl low (total-one n s v)

-- an entry weighs in its own source alone
weight-one :
    (h : Entry → ℕ) (j : ℕ) (x : Entry) (log : List Entry) → weight h (from_source j (x ∷ log)) ≡ cond (j == x.source)
    (h x) 0 + weight h (from_source j log)
weight-one h j x log = grind (arith, common_steps)

-- a log weighs what its sources weigh together
weight-split : (h : Entry → ℕ) (n : ℕ) (log : List Entry) → All (λ x. x.source < n) log →
    weight h log ≡ total n (λ j. weight h (from_source j log))
weight-split h n [] all = sym (total-zero n)
weight-split h n (x ∷ log) all =
    ap (λ (k : ℕ). h x + k) (weight-split h n log (All-tail (λ (y : Entry). y.source < n) x log all))
    ∙ ap (λ (k : ℕ). k + total n (λ j. weight h (from_source j log)))
    (sym (total-one n x.source (h x) (All-head (λ (y : Entry). y.source < n) x log all)))
    ∙ sym (total-add n (λ j. cond (j == x.source) (h x) 0) (λ j. weight h (from_source j log)))
    ∙ sym (total-same n (λ j. weight h (from_source j (x ∷ log))) (λ j. cond (j == x.source) (h x) 0 +
    weight h (from_source j log)) (λ j low. weight-one h j x log))

weight-merge :
    (h : Entry → ℕ) (n : ℕ) (one other : List Entry) → All (λ x. x.source < n) one → All (λ x. x.source < n) other →
    SameSources one other → weight h one ≡ weight h other
weight-merge h n one other all same-all same =
    weight-split h n one all ∙ total-same n (λ j. weight h (from_source j one)) (λ j. weight h (from_source j other))
    (λ j low. ap (weight h) (same j)) ∙ sym (weight-split h n other same-all)

weight-length : (log : List Entry) → weight (λ x. 1) log ≡ length log
weight-length [] = refl
weight-length (x ∷ log) = omega (arith, weight-length log)

weight-count : (p : Entry → Bool) (log : List Entry) → weight (λ x. cond (p x) 1 0) log ≡ count_by p log
weight-count p log = is_count_by (weight (λ x. cond (p x) 1 0)) p refl
    (λ x xs. step (p x) (weight (λ y. cond (p y) 1 0) xs)) log
  where
    step : (b : Bool) (rest : ℕ) → cond b 1 0 + rest ≡ cond b (1 + rest) rest
    step true rest = refl
    step false rest = omega arith

weight-like : (h g : Entry → ℕ) (log : List Entry) → ((x : Entry) → h x ≡ g x) → weight h log ≡ weight g log
weight-like h g log l = grind (arith, common_steps)

none-here :
    (p : Event → Bool) (x : Entry) (log : List Entry) (b : Bool) → is_none (find p (events log)) ≡
    (weight (λ y. cond (p y.event) 1 0) log == 0) →
    is_none (cond b (Some x.event) (find p (events log))) ≡ ((cond b 1 0 + weight (λ y. cond (p y.event) 1 0) log) == 0)
none-here p x log b h = grind (arith, common_steps)

-- a search finds nothing where nothing weighs
found-none : (p : Event → Bool) (log : List Entry) → is_none (find p (events log)) ≡
    (weight (λ x. cond (p x.event) 1 0) log == 0)
found-none p [] = refl
found-none p (x ∷ log) = none-here p x log (p x.event) (found-none p log)

module _ (n : ℕ) (one other : List Entry) (low : All (λ x. x.source < n) one) (low' : All (λ x. x.source < n) other)
    (same : SameSources one other) where
  no-writer : (word version : ℕ) → is_none (writer (events one) word version) ≡ is_none
      (writer (events other) word version)
  no-writer word version = go (version == 0)
    where
      p : Event → Bool
      p = did_write word version

      go : (b : Bool) → is_none (cond b None (find p (events one))) ≡ is_none (cond b None (find p (events other)))
      go true = refl
      go false =
          found-none p one ∙ ap (λ (k : ℕ). k == 0) (weight-merge (λ x. cond (p x.event) 1 0) n one other low low' same)
          ∙ sym (found-none p other)

  waits-alike : (e : Event) → is_waiting (events one) e ≡ is_waiting (events other) e
  waits-alike e = ap (λ (b : Bool). is_load e.op && (not (e.read == 0) && b)) (no-writer e.word e.read)

  -- as many entries
  pub length-merge : length one ≡ length other
  length-merge = sym (weight-length one) ∙ weight-merge (λ x. 1) n one other low low' same ∙ weight-length other

  count-merge : (p : Entry → Bool) → count_by p one ≡ count_by p other
  count-merge p = sym (weight-count p one) ∙ weight-merge (λ x. cond (p x) 1 0) n one other low low' same ∙
      weight-count p other

  -- as many memory operations
  pub operations-merge : operations_of one ≡ operations_of other
  operations-merge = count-merge (λ x. is_memory x.event.op)

  -- as many waiting loads
  pub waiting-merge : waiting_of one ≡ waiting_of other
  waiting-merge = search (weight-count, weight-like, cond, waits-alike, count-merge, rules)
