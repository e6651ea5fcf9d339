-- The nodes that pass a test, listed by rank.
use Rattle.rv_rank.proofs.Common.{◌≡◌, ℕ, suc, ◌+◌, ◌<◌, ◌≤◌, Bool, true, false, cond, List, [], ◌∷◌, ◌++◌}
use Rattle.rv_rank.proofs.Common.{length, get_or, take, drop, reverse, sym, ◌∙◌, arith, ap, refl, length-drop}
use Rattle.rv_rank.proofs.Common.{filter, drop-cons, get_or-take, get_or-drop, length-take, reverse-append}
use Rattle.rv_rank.proofs.Common.{take-append-drop, filter_more, filter-append, length-filter, count_by-le-length}
use Rattle.rv_rank.proofs.Common.{common_steps, zero, cases_eq, cases_lt, inl, inr, take_all}
use Rattle.std.proofs.lemmas.List.{append-nil}

filter_same : (t u : ℕ → Bool) (xs : List ℕ) →
    ((k : ℕ) → k < length xs → t (get_or xs k 0) ≡ u (get_or xs k 0)) → filter t xs ≡ filter u xs
filter_same t u [] h = refl
filter_same t u (x ∷ xs) h =
    let rest = filter_same t u xs (λ k l. h (suc k) (omega arith)) in
    ap (λ b. cond b (x ∷ filter t xs) (filter t xs)) (h 0 (omega arith)) ∙ ap (λ l. cond (u x) (x ∷ l) l) rest

-- where none passes nothing is listed
pub filter_none : (t : ℕ → Bool) (xs : List ℕ) → ((k : ℕ) → k < length xs → t (get_or xs k 0) ≡ false) →
    filter t xs ≡ []
filter_none t [] h = refl
filter_none t (x ∷ xs) h =
    let rest = filter_none t xs (λ k l. h (suc k) (omega arith)) in
    ap (λ b. cond b (x ∷ filter t xs) (filter t xs)) (h 0 (omega arith)) ∙ rest

-- what passes is no longer than the list
pub listed_all_few : (t : ℕ → Bool) (xs : List ℕ) → length (filter t xs) ≤ length xs
listed_all_few t xs = omega (arith, length-filter t xs, count_by-le-length t xs)

-- none of the first passes
pub listed_none : (t : ℕ → Bool) (xs : List ℕ) (r : ℕ) →
    ((k : ℕ) → k < r → k < length xs → t (get_or xs k 0) ≡ false) → filter t (take r xs) ≡ []
listed_none t xs r h = filter_none t (take r xs) (λ k l.
    let long = length-take r xs in
    let q = get_or-take r xs k 0 (omega arith) in
    rw q (h k (omega arith) (omega arith)))

-- one more that passes, upward
pub listed_more : (t u : ℕ → Bool) (xs : List ℕ) (r : ℕ) → r < length xs →
    ((k : ℕ) → k < r → k < length xs → t (get_or xs k 0) ≡ u (get_or xs k 0)) → u (get_or xs r 0) ≡ true →
    filter t (take r xs) ++ get_or xs r 0 ∷ [] ≡ filter u (take (r + 1) xs)
listed_more t u xs r l h e =
    grind (arith, common_steps, filter_more, filter_same, length-take, get_or-take)

-- one that fails, upward
pub listed_skip : (t : ℕ → Bool) (xs : List ℕ) (r : ℕ) → r < length xs → t (get_or xs r 0) ≡ false →
    filter t (take r xs) ≡ filter t (take (r + 1) xs)
listed_skip t xs r l e = grind (arith, common_steps)

-- those that fail, upward
pub listed_jump : (t : ℕ → Bool) (xs : List ℕ) (r q : ℕ) → r ≤ q →
    ((k : ℕ) → r ≤ k → k < q → k < length xs → t (get_or xs k 0) ≡ false) →
    filter t (take r xs) ≡ filter t (take q xs)
listed_jump t xs r zero l h = let e : r ≡ zero = omega arith in rw e refl
listed_jump t xs r (suc q) l h = elim (cases_eq r (suc q)) [
  | inl e ↦ rw e refl
  | inr less ↦
      let first = listed_jump t xs r q (omega arith) (λ k from under in_list. h k from (omega arith) in_list) in
      first ∙ elim (cases_lt q (length xs)) [
        | inl under ↦
            let more : q + 1 ≡ suc q = omega arith in
            let next = listed_skip t xs q under (h q (omega arith) (omega arith) under) in
            rw more at next
        | inr past ↦ ap (filter t) (take_all q xs past ∙ sym (take_all (suc q) xs (omega arith)))
      ]
]

-- one more that passes, downward
pub listed_down_more : (t u : ℕ → Bool) (xs : List ℕ) (r : ℕ) → r < length xs →
    ((k : ℕ) → r + 1 ≤ k → k < length xs → t (get_or xs k 0) ≡ u (get_or xs k 0)) → u (get_or xs r 0) ≡ true →
    reverse (filter t (drop (r + 1) xs)) ++ get_or xs r 0 ∷ [] ≡ reverse (filter u (drop r xs))
listed_down_more t u xs r l h e =
    grind (arith, common_steps, drop-cons, reverse-append, filter_same, length-drop, get_or-drop)

-- none passes from place r on
pub listed_past : (t : ℕ → Bool) (xs : List ℕ) (r : ℕ) →
    ((k : ℕ) → r ≤ k → k < length xs → t (get_or xs k 0) ≡ false) → filter t (drop r xs) ≡ []
listed_past t xs r h = filter_none t (drop r xs) (λ k l.
    let long = length-drop r xs in
    let q = get_or-drop r xs k 0 in
    rw q (h (r + k) (omega arith) (omega (arith, long, l))))

-- all that pass do so from place r on
pub listed_from : (t : ℕ → Bool) (xs : List ℕ) (r : ℕ) →
    ((k : ℕ) → k < r → k < length xs → t (get_or xs k 0) ≡ false) → filter t (drop r xs) ≡ filter t xs
listed_from t xs r h =
    let none = listed_none t xs r h in
    ap (λ s. s ++ filter t (drop r xs)) (sym none) ∙ sym (filter-append t (take r xs) (drop r xs)) ∙
    ap (filter t) (take-append-drop r xs)

-- all that pass do so up to place r
pub listed_to : (t : ℕ → Bool) (xs : List ℕ) (r : ℕ) →
    ((k : ℕ) → r ≤ k → k < length xs → t (get_or xs k 0) ≡ false) → filter t (take r xs) ≡ filter t xs
listed_to t xs r h =
    let none = listed_past t xs r h in
    sym (append-nil (filter t (take r xs))) ∙ ap (λ s. filter t (take r xs) ++ s) (sym none)
    ∙ sym (filter-append t (take r xs) (drop r xs)) ∙ ap (filter t) (take-append-drop r xs)
