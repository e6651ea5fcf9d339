-- Membership in the first elements of a list.
use Rattle.rv_rank.proofs.Common.{cases_eq, ◌≡◌, ℕ, zero, suc, ◌+◌, ◌<◌, ◌⊎◌, List, [], ◌∷◌, length, get_or, take}
use Rattle.rv_rank.proofs.Common.{inl, inr, arith, Contains, take_more, Contains-append_left, Contains-push}
use Rattle.rv_rank.proofs.Common.{common_steps, ◌∙◌, ◌==◌, true, eq-eqb, get_or_default}
use Rattle.std.proofs.lemmas.Bool.{eqb-true}
use Rattle.std.proofs.lemmas.List.Folds.{Any-from_list_any, list_any_at}
use Rattle.std.specs.List.{list_any}

-- the first elements and the next
pub Contains-take_more : (xs : List ℕ) (i x : ℕ) → i < length xs → Contains (take (i + 1) xs) x →
    Contains (take i xs) x ⊎ (get_or xs i 0 ≡ x)
Contains-take_more xs i x l h = grind (arith, common_steps)

-- the first elements stay
pub Contains-take_kept : (xs : List ℕ) (i x : ℕ) → i < length xs → Contains (take i xs) x →
    Contains (take (i + 1) xs) x
Contains-take_kept xs i x l h =
    let e = take_more xs i 0 l in
    rw e (Contains-append_left (take i xs) _ x h)

-- the next is there
pub Contains-take_last : (xs : List ℕ) (i : ℕ) → i < length xs → Contains (take (i + 1) xs) (get_or xs i 0)
Contains-take_last xs i l =
    let e = take_more xs i 0 l in
    rw e (Contains-push (take i xs) (get_or xs i 0))

Contains-cons_cases : (y x : ℕ) (ys : List ℕ) → Contains (y ∷ ys) x → (y ≡ x) ⊎ Contains ys x
Contains-cons_cases y x ys (zero, l, e) = inl e
Contains-cons_cases y x ys (suc k, l, e) = inr (k, omega arith, e)

-- a list has a number or has it not
pub contains_cases : (xs : List ℕ) (x : ℕ) → Contains xs x ⊎ (Contains xs x → ⊥)
contains_cases [] x = inr (λ w. absurd (omega (arith, w.1)))
contains_cases (y ∷ ys) x = elim (cases_eq y x) [
  | inl e ↦ inl (0, omega arith, e)
  | inr n ↦ elim (contains_cases ys x) [
    | inl w ↦ inl (suc w.0, omega (arith, w.1), w.2)
    | inr m ↦ inr (λ w. elim (Contains-cons_cases y x ys w) [ inl e ↦ n e | inr v ↦ m v ])
  ]
]

-- a list that has a number passes the test for it
pub list_any-contains : (xs : List ℕ) (x : ℕ) → Contains xs x → list_any (λ y. y == x) xs ≡ true
list_any-contains xs x w = list_any_at (λ y. y == x) xs w.0 x w.1 (eq-eqb _ x w.2)

-- and one that passes has it
pub contains-list_any : (xs : List ℕ) (x : ℕ) → list_any (λ y. y == x) xs ≡ true → Contains xs x
contains-list_any xs x e =
    let w = Any-from_list_any (λ y. y == x) xs e in
    let same = eqb-true w.1 x w.4 in
    (w.0, w.2, get_or_default xs w.0 x w.1 w.2 ∙ w.3 ∙ same)
