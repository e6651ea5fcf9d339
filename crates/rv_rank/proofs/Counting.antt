-- How many of the first elements of a list pass a test, and where those that pass stand in the
-- filtered list.
use Rattle.rv_rank.proofs.Common.{cases_Bool, ◌≡◌, ℕ, zero, suc, ◌+◌, ◌-◌, ◌<◌, ◌≤◌, Bool, true, false, cond, List, []}
use Rattle.rv_rank.proofs.Common.{◌∷◌, length, get_or, inl, inr, sym, ◌∙◌, arith, ap, refl, subst, filter}
use Rattle.rv_rank.proofs.Common.{count_below}

-- how many of the first k elements pass
abbrev pub count_to : (ℕ → Bool) → List ℕ → ℕ → ℕ
count_to t xs zero = 0
count_to t [] (suc k) = 0
count_to t (x ∷ xs) (suc k) = cond (t x) (suc (count_to t xs k)) (count_to t xs k)

-- a count goes up where the test passes
pub count_yes : (t : ℕ → Bool) (xs : List ℕ) (k : ℕ) → k < length xs → t (get_or xs k 0) ≡ true →
    count_to t xs (suc k) ≡ suc (count_to t xs k)
count_yes t [] k l e = absurd (omega arith)
count_yes t (x ∷ xs) zero l e = ap (λ b. cond b 1 0) e
count_yes t (x ∷ xs) (suc k) l e =
    let h = count_yes t xs k (omega arith) e in
    elim (t x) as (λ b. cond b (suc (count_to t xs (suc k))) (count_to t xs (suc k)) ≡ suc
    (cond b (suc (count_to t xs k)) (count_to t xs k))) [ true ↦ ap suc h | false ↦ h ]

-- and stays where it fails
pub count_no : (t : ℕ → Bool) (xs : List ℕ) (k : ℕ) → k < length xs → t (get_or xs k 0) ≡ false →
    count_to t xs (suc k) ≡ count_to t xs k
count_no t [] k l e = absurd (omega arith)
count_no t (x ∷ xs) zero l e = ap (λ b. cond b 1 0) e
count_no t (x ∷ xs) (suc k) l e =
    let h = count_no t xs k (omega arith) e in
    elim (t x) as (λ b. cond b (suc (count_to t xs (suc k))) (count_to t xs (suc k)) ≡ cond b
    (suc (count_to t xs k)) (count_to t xs k)) [ true ↦ ap suc h | false ↦ h ]

count_step : (t : ℕ → Bool) (xs : List ℕ) (k : ℕ) → count_to t xs k ≤ count_to t xs (suc k)
count_step t [] zero = omega arith
count_step t [] (suc k) = omega arith
count_step t (x ∷ xs) zero = omega arith
count_step t (x ∷ xs) (suc k) =
    let h = count_step t xs k in
    elim (t x) as (λ b. cond b (suc (count_to t xs k)) (count_to t xs k) ≤ cond b (suc (count_to t xs (suc k)))
    (count_to t xs (suc k))) [ true ↦ omega (arith, h) | false ↦ h ]

count_along : (t : ℕ → Bool) (xs : List ℕ) (k d : ℕ) → count_to t xs k ≤ count_to t xs (k + d)
count_along t xs k zero = let e : k + zero ≡ k = omega arith in rw e (omega arith)
count_along t xs k (suc d) = let e : k + suc d ≡ suc (k + d) =
    omega arith in rw e (omega (arith, count_along t xs k d, count_step t xs (k + d)))

-- a count does not fall
pub count_mono : (t : ℕ → Bool) (xs : List ℕ) (j k : ℕ) → j ≤ k → count_to t xs j ≤ count_to t xs k
count_mono t xs j k l = let e : j + (k - j) ≡ k = omega arith in let h = count_along t xs j (k - j) in rw e at h

-- and rises past what passes
pub count_strict : (t : ℕ → Bool) (xs : List ℕ) (j k : ℕ) → j < length xs → t (get_or xs j 0) ≡ true → j < k →
    count_to t xs j < count_to t xs k
count_strict t xs j k b e l = omega (arith, count_yes t xs j b e, count_mono t xs (suc j) k l)

-- where an element that passes stands in the filtered list
pub filter_at : (t : ℕ → Bool) (xs : List ℕ) (k : ℕ) → k < length xs → t (get_or xs k 0) ≡ true →
    (count_to t xs k < length (filter t xs)) × (get_or (filter t xs) (count_to t xs k) 0 ≡ get_or xs k 0)
filter_at t [] k l e = absurd (omega arith)
filter_at t (x ∷ xs) zero l e = subst (λ b. (0 < length (cond b (x ∷ filter t xs) (filter t xs))) ×
    (get_or (cond b (x ∷ filter t xs) (filter t xs)) 0 0 ≡ x)) (sym e) (omega arith, refl)
filter_at t (x ∷ xs) (suc k) l e =
    let h = filter_at t xs k (omega arith) e in
    elim (t x)
    as (λ b. (cond b (suc (count_to t xs k)) (count_to t xs k) < length
    (cond b (x ∷ filter t xs) (filter t xs))) ×
    (get_or (cond b (x ∷ filter t xs) (filter t xs)) (cond b (suc (count_to t xs k)) (count_to t xs k))
    0 ≡ get_or xs k 0)) [ true ↦ (omega (arith, h.0), h.1) | false ↦ h ]

-- the whole count is the length of what passes
pub count_all : (t : ℕ → Bool) (xs : List ℕ) → count_to t xs (length xs) ≡ length (filter t xs)
count_all t [] = refl
count_all t (x ∷ xs) =
    let h = count_all t xs in
    elim (t x) as (λ b. cond b (suc (count_to t xs (length xs))) (count_to t xs (length xs)) ≡ length
    (cond b (x ∷ filter t xs) (filter t xs))) [ true ↦ ap suc h | false ↦ h ]

-- what `filter_from` gives
abbrev Origin : (ℕ → Bool) → List ℕ → ℕ → Type 0
Origin t xs j = (k : ℕ) × (k < length xs) × (t (get_or xs k 0) ≡ true) × (count_to t xs k ≡ j) ×
    (get_or xs k 0 ≡ get_or (filter t xs) j 0)

filter_from_head : (t : ℕ → Bool) (x : ℕ) (xs : List ℕ) (j : ℕ) → t x ≡ true → j < length (x ∷ filter t xs) →
    ((i : ℕ) → i < length (filter t xs) → Origin t xs i) → Origin t (x ∷ xs) j
filter_from_head t x xs zero e l h =
    (0, omega arith, e, refl, ap (λ b. get_or (cond b (x ∷ filter t xs) (filter t xs)) 0 0) (sym e))
filter_from_head t x xs (suc j) e l h =
    let o = h j (omega arith) in (
      suc o.0,
      omega (arith, o.1),
      o.2,
      ap (λ b. cond b (suc (count_to t xs o.0)) (count_to t xs o.0)) e ∙
          ap suc o.3,
      o.4 ∙ ap (λ b. get_or (cond b (x ∷ filter t xs) (filter t xs)) (suc j) 0) (sym e),
    )

-- where an element of the filtered list came from
pub filter_from : (t : ℕ → Bool) (xs : List ℕ) (j : ℕ) → j < length (filter t xs) → (k : ℕ) × (k < length xs) ×
    (t (get_or xs k 0) ≡ true) × (count_to t xs k ≡ j) × (get_or xs k 0 ≡ get_or (filter t xs) j 0)
filter_from t [] j l = absurd (omega arith)
filter_from t (x ∷ xs) j l = elim (cases_Bool (t x)) [
  | inl e ↦ filter_from_head t x xs j e (subst (λ b. j < length (cond b (x ∷ filter t xs) (filter t xs))) e l)
      (λ i m. filter_from t xs i m)
  | inr f ↦
      let m = subst (λ b. j < length (cond b (x ∷ filter t xs) (filter t xs))) f l in
      let h = filter_from t xs j m in (
        suc h.0,
        omega (arith, h.1),
        h.2,
        ap (λ b. cond b (suc (count_to t xs h.0)) (count_to t xs h.0)) f ∙ h.3,
        h.4 ∙ ap (λ b. get_or (cond b (x ∷ filter t xs) (filter t xs)) j 0) (sym f),
      )
]

-- the numbers below one that pass are counted alike
pub count_below-count_to : (s t : ℕ → Bool) (xs : List ℕ) (k : ℕ) →
    ((j : ℕ) → j < length xs → s j ≡ t (get_or xs j 0)) → k ≤ length xs → count_below s k ≡ count_to t xs k
count_below-count_to s t xs zero h l = refl
count_below-count_to s t xs (suc k) h l =
    let rest = count_below-count_to s t xs k h (omega arith) in
    let here = h k (omega arith) in
    elim (cases_Bool (s k)) [
      | inl e ↦ ap (λ b. cond b (suc (count_below s k)) (count_below s k)) e ∙ ap suc rest ∙
          sym (count_yes t xs k (omega arith) (sym here ∙ e))
      | inr e ↦ ap (λ b. cond b (suc (count_below s k)) (count_below s k)) e ∙ rest ∙
          sym (count_no t xs k (omega arith) (sym here ∙ e))
    ]
