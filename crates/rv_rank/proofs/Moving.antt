-- How many numbers pass a test, told by a list that has each of them once.
use Rattle.rv_rank.proofs.Common.{cases_Bool}
use Rattle.rv_rank.proofs.Common.{◌≡◌, ◌≢◌, ℕ, zero, suc, ◌+◌, ◌-◌, ◌<◌, ◌≤◌, ◌⊎◌, Bool, true, not, cond, List}
use Rattle.rv_rank.proofs.Common.{[], ◌∷◌, length, get_or, take, inl, inr, sym, ◌∙◌, arith, ap, refl, subst, ◌==◌}
use Rattle.rv_rank.proofs.Common.{Contains, remove, zip, count_by, take_all, get_or_default, length-remove}
use Rattle.rv_rank.proofs.Common.{get_or-remove_below, get_or-remove_above, Contains-get_or, count_by_more_yes}
use Rattle.rv_rank.proofs.Common.{count_by_more_no, get_or-zip, length-zip, cases_lt, false≢true, rules}
use Rattle.rv_rank.proofs.Common.{common_steps, count_below, ListsOnce, moved_of}

-- what a list contains stands somewhere
pub contained_at : (xs : List ℕ) (a : ℕ) → (w : Contains xs a) → get_or xs w.0 0 ≡ a
contained_at xs a w = get_or_default xs w.0 0 a w.1 ∙ w.2

-- each place of the list without place i is another place of the list, in the same order
origin : (xs : List ℕ) (i k : ℕ) → i < length xs → k < length (remove xs i) → (j : ℕ) × (j < length xs) ×
    (j ≢ i) × (get_or (remove xs i) k 0 ≡ get_or xs j 0) × (((k < i) × (j ≡ k)) ⊎ ((i ≤ k) × (j ≡ k + 1)))
origin xs i k l m =
    let long = length-remove xs i l in
    elim (cases_lt k i) [
      | inl b ↦ (k, omega arith, omega arith, get_or-remove_below xs i 0 k b l, inl (b, refl))
      | inr p ↦ (k + 1, omega arith, omega arith, get_or-remove_above xs i 0 k p l, inr (p, refl))
    ]

-- what stands at another place stands in the list without place i
rest_has : (xs : List ℕ) (i j : ℕ) → i < length xs → j < length xs → j ≢ i → Contains (remove xs i) (get_or xs j 0)
rest_has xs i j l m n =
    let long = length-remove xs i l in
    elim (cases_lt j i) [
      | inl b ↦ subst (Contains (remove xs i)) (get_or-remove_below xs i 0 j b l)
          (Contains-get_or (remove xs i) j 0 (omega arith))
      | inr p ↦
          let q : j - 1 + 1 ≡ j = omega arith in
          subst (Contains (remove xs i)) (get_or-remove_above xs i 0 (j - 1) (omega arith) l ∙
          ap (λ x. get_or xs x 0) q) (Contains-get_or (remove xs i) (j - 1) 0 (omega arith))
    ]

-- the node is there, and passes the test
abbrev pub Passing : (ℕ → Bool) → ℕ → ℕ → Type 0
Passing t n a = (a < n) × (t a ≡ true)

list_without : (t : ℕ → Bool) (n : ℕ) (xs : List ℕ) (i : ℕ) → i < length xs → get_or xs i 0 ≡ n →
    ListsOnce (Passing t (suc n)) xs → ListsOnce (Passing t n) (remove xs i)
list_without t n xs i l at h = record {
  each = λ a w.
      let c = h.each a (omega (arith, w.0), w.1) in
      let same = contained_at xs a c in
      let differs : c.0 ≢ i = λ e. omega (arith, w.0, same, at, ap (λ k. get_or xs k 0) e) in
      subst (Contains (remove xs i)) same (rest_has xs i c.0 l c.1 differs);
  only = λ a w.
      let o = origin xs i w.0 l w.1 in
      let same : get_or xs o.0 0 ≡ a = sym o.3 ∙ contained_at (remove xs i) a w in
      let p = h.only (get_or xs o.0 0) (Contains-get_or xs o.0 0 o.1) in
      let differs : get_or xs o.0 0 ≢ n = search (cases_lt, rules) in
      (omega (arith, p.0, same, differs), ap t (sym same) ∙ p.1);
  once = λ j k b m e.
      let p = origin xs i j l (omega arith) in
      let q = origin xs i k l m in
      let rise : p.0 < q.0 = grind (arith, common_steps) in
      h.once p.0 q.0 rise q.1 (sym p.3 ∙ e ∙ q.3);
}

empty_list : (t : ℕ → Bool) (xs : List ℕ) → ListsOnce (Passing t 0) xs → 0 ≡ length xs
empty_list t [] h = refl
empty_list t (x ∷ xs) h = absurd (omega (arith, (h.only x (0, omega arith, refl)).0))

-- as many pass as the list has
pub count_below-listed : (t : ℕ → Bool) (n : ℕ) (xs : List ℕ) → ListsOnce (Passing t n) xs →
    count_below t n ≡ length xs
count_below-listed t zero xs h = empty_list t xs h
count_below-listed t (suc n) xs h = elim (cases_Bool (t n)) [
  | inl passes ↦
      let w = h.each n (omega arith, passes) in
      let rest = count_below-listed t n (remove xs w.0) (list_without t n xs w.0 w.1 (contained_at xs n w) h) in
      ap (λ b. cond b (suc (count_below t n)) (count_below t n)) passes ∙
      omega (arith, rest, length-remove xs w.0 w.1)
  | inr fails ↦
      let rest = count_below-listed t n xs (record {
        each = λ a w. h.each a (omega (arith, w.0), w.1);
        only = λ a w. let p = h.only a w in let differs : a ≢ n =
            λ e. false≢true (sym fails ∙ ap t (sym e) ∙ p.1) in (omega (arith, p.0), p.1);
        once = h.once;
      }) in
      ap (λ b. cond b (suc (count_below t n)) (count_below t n)) fails ∙ rest
]

-- whether a node has another rank than before
abbrev pub has_moved : List ℕ → List ℕ → ℕ → Bool
has_moved old new a = not (get_or old a 0 == get_or new a 0)

pairs_moved : (old new : List ℕ) (n : ℕ) → n ≤ length old → n ≤ length new →
    count_by (λ r. not (r.0 == r.1)) (take n (zip old new)) ≡ count_below (has_moved old new) n
pairs_moved old new zero l m = refl
pairs_moved old new (suc n) l m =
    let rest = pairs_moved old new n (omega arith) (omega arith) in
    let long = length-zip old new in
    let at = get_or-zip old new n (0, 0) (omega arith) (omega arith) in
    let next : n + 1 ≡ suc n = omega arith in
    elim (cases_Bool (has_moved old new n)) [
      | inl passes ↦
          let more = count_by_more_yes (λ r. not (r.0 == r.1)) (zip old new) n (
            0,
            0,
          ) (omega arith) (ap (λ r. not (r.0 == r.1)) at ∙ passes) in
          ap (λ k. count_by (λ r. not (r.0 == r.1)) (take k (zip old new))) (sym next) ∙ more ∙
          omega (arith, rest) ∙
          sym (ap (λ b. cond b (suc (count_below (has_moved old new) n))
          (count_below (has_moved old new) n)) passes)
      | inr fails ↦
          let more = count_by_more_no (λ r. not (r.0 == r.1)) (zip old new) n (
            0,
            0,
          ) (omega arith) (ap (λ r. not (r.0 == r.1)) at ∙ fails) in
          ap (λ k. count_by (λ r. not (r.0 == r.1)) (take k (zip old new))) (sym next) ∙ more ∙ rest ∙
          sym (ap (λ b. cond b (suc (count_below (has_moved old new) n))
          (count_below (has_moved old new) n)) fails)
    ]

-- the moved nodes are as many as the list that names each once
pub moved_of-listed : (old new xs : List ℕ) → length old ≤ length new →
    ListsOnce (Passing (has_moved old new) (length old)) xs → moved_of old new ≡ length xs
moved_of-listed old new xs l h =
    let long = length-zip old new in
    let whole = take_all (length old) (zip old new) (omega arith) in
    sym (ap (count_by (λ r. not (r.0 == r.1))) whole) ∙ pairs_moved old new (length old) (omega arith) l ∙
    count_below-listed (has_moved old new) (length old) xs h
