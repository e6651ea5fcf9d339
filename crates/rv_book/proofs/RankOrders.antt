-- The order that ranks give.
use Rattle.rv_book.proofs.Common.{rules, ◌≡◌, ◌≢◌, ℕ, zero, suc, ◌<◌, ◌==◌, Bool, true, false, cond, List, []}
use Rattle.rv_book.proofs.Common.{◌∷◌, map, length, get_or, AllPairs, inl, inr, refl, sym, ap, ◌∙◌, arith, subst}
use Rattle.rv_book.proofs.Common.{le_of_suc-le-suc, suc-le-suc, eqb-true, eq-eqb, cases_eq, length-map}
use Rattle.rv_book.proofs.Common.{get_or-map, get_or_push, get_or_append_left, length_push, ext_get_or, place}
use Rattle.rv_book.proofs.Common.{place-at, Id, Arranged, nobody, at, index_of, up_to, order_of, IsArranged}

length-up_to : (n : ℕ) → length (up_to n) ≡ n
length-up_to zero = refl
length-up_to (suc n) = length_push (up_to n) n ∙ omega (arith, length-up_to n)

get-up_to : (n k d : ℕ) → k < n → get_or (up_to n) k d ≡ k
get-up_to zero k d l = absurd (omega arith)
get-up_to (suc n) k d l = elim (cases_eq k n) [
  | inl e ↦ get_or_push (up_to n) n d k (length-up_to n ∙ sym e) ∙ sym e
  | inr other ↦
      let low : k < n = omega arith in
      let long = length-up_to n in
      get_or_append_left (up_to n) (n ∷ []) d k (omega arith) ∙ get-up_to n k d low
]

-- the place of a number that stands once
index-at : (ranks : List ℕ) (a : ℕ) → a < length ranks →
    ((b : ℕ) → b < length ranks → get_or ranks b 0 ≡ get_or ranks a 0 → b ≡ a) → index_of ranks (get_or ranks a 0) ≡ a
index-at [] a l once = absurd (omega arith)
index-at (x ∷ xs) zero l once = rw (eq-eqb x x refl)
index-at (x ∷ xs) (suc a) l once = go (x == get_or xs a 0) refl
    (index-at xs a (le_of_suc-le-suc l) (λ b low q. suc-same b (once (suc b) (suc-le-suc low) q)))
  where
    zero-suc : 0 ≡ suc a → ⊥
    zero-suc q = omega arith

    suc-same : (b : ℕ) → suc b ≡ suc a → b ≡ a
    suc-same b q = omega arith

    go : (b : Bool) → (x == get_or xs a 0) ≡ b → index_of xs (get_or xs a 0) ≡ a →
        cond b 0 (suc (index_of xs (get_or xs a 0))) ≡ suc a
    go true e again = absurd (zero-suc (once 0 (omega arith) (eqb-true x (get_or xs a 0) e)))
    go false e again = ap suc again

module _ (v : Arranged) (ok : IsArranged v) where
  -- the ids by rank
  abbrev pub order : List Id
  order = order_of v.ranks v.ids

  -- the order is as long as the ranks
  pub length-order : length order ≡ length v.ranks
  length-order = search (length-map, length-up_to, rules)

  get-order : (r : ℕ) (d : Id) → r < length v.ranks → get_or order r d ≡ at v.ids (index_of v.ranks r)
  get-order r d l = get_or-map (λ x. at v.ids (index_of v.ranks x)) (up_to (length v.ranks)) r 0 d
      (omega (arith, length-up_to (length v.ranks))) ∙ ap (λ x. at v.ids (index_of v.ranks x))
      (get-up_to (length v.ranks) r 0 l)

  index-rank : (a : ℕ) → a < length v.ranks → index_of v.ranks (get_or v.ranks a 0) ≡ a
  index-rank a l = search (index-at, rules)

  -- the id of a node stands at the node's rank
  pub at-rank : (a : ℕ) (d : Id) → a < length v.ranks → get_or order (get_or v.ranks a 0) d ≡ at v.ids a
  at-rank a d l = get-order (get_or v.ranks a 0) d (ok.ordered.below a l) ∙ ap (at v.ids) (index-rank a l)

  -- it names no id twice
  pub order-once : AllPairs (λ i j. i ≢ j) order
  order-once r s d low within q =
      let long = length-order in
      let x = ok.ordered.every r (omega arith) in
      let y = ok.ordered.every s (omega arith) in
      let same : at v.ids x.0 ≡ at v.ids y.0 = search (at-rank, rules) in
      let ids = ok.long in
      let z = ok.once x.0 y.0 (omega (arith, x.1)) (omega (arith, y.1)) same in
      let e : r ≡ s = sym x.2 ∙ ap (λ k. get_or v.ranks k 0) z ∙ y.2 in
      absurd (omega arith)

  -- a node stands at its rank
  pub place-node : (a : ℕ) → a < length v.ranks → place order (at v.ids a) ≡ get_or v.ranks a 0
  place-node a l = subst (λ i. place order i ≡ get_or v.ranks a 0) (at-rank a nobody l)
      (place-at order order-once (get_or v.ranks a 0) nobody (omega (arith, length-order, ok.ordered.below a l)))

  -- the ids of the nodes by rank
  pub order_is : (nodes : List ℕ) → length nodes ≡ length v.ranks →
      ((r : ℕ) → r < length v.ranks → get_or v.ranks (get_or nodes r 0) 0 ≡ r) →
      ((r : ℕ) → r < length v.ranks → get_or nodes r 0 < length v.ranks) → map (at v.ids) nodes ≡ order
  order_is nodes long ranked low =
      ext_get_or nobody (map (at v.ids) nodes) order (length-map nodes (at v.ids) ∙ long ∙ sym length-order) (λ r l.
      let m : r < length v.ranks = omega (arith, l, length-map nodes (at v.ids), long) in
      let a = get_or nodes r 0 in
      let same : a ≡ index_of v.ranks r = sym (index-rank a (low r m)) ∙ ap (index_of v.ranks) (ranked r m) in
      get_or-map (at v.ids) nodes r 0 nobody (omega (arith, m, long)) ∙ ap (at v.ids) same ∙ sym (get-order r nobody m))
