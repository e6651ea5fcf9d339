-- Sets of nodes that grow.
use Rattle.rv_rank.proofs.Common.{◌≡◌, ℕ, ◌+◌, ◌<◌, ◌≤◌, ◌&&◌, ◌||◌, ◌==◌, Bool, true, false, List, length}
use Rattle.rv_rank.proofs.Common.{get_or, take, inl, inr, sym, ◌∙◌, arith, ap, refl, Contains, common_steps}
use Rattle.rv_rank.proofs.Common.{or-false, or-true, lt-ltb, le-ltb, false≢true}
use Rattle.rv_rank.proofs.Common.{cases_eq, cases_lt, eq-eqb, ne_eqb, Has, has_bit, AreBelow, AreRanks, IsInverse}
use Rattle.rv_rank.proofs.Common.{IsJoined, has_slot}
use Rattle.rv_rank.proofs.Lists.{Contains-take_more, Contains-take_kept, Contains-take_last}
use Rattle.std.proofs.lemmas.Bool.{false_from_ne_true}

-- before the first node nothing was put in
pub IsJoined-none : (set : ℕ → Bool) (nodes : List ℕ) → IsJoined set set (take 0 nodes)
IsJoined-none set nodes = grind (arith, common_steps)

-- one more node was put in
pub IsJoined-more : (old new next : ℕ → Bool) (nodes : List ℕ) (i : ℕ) → IsJoined old new (take i nodes) →
    i < length nodes → ((j : ℕ) → next j ≡ (new j || (get_or nodes i 0 == j))) → IsJoined old next (take (i + 1) nodes)
IsJoined-more old new next nodes i h l e =
    let a = get_or nodes i 0 in
    let stays : (j : ℕ) → new j ≡ true → next j ≡ true = λ j w. e j ∙ ap (λ x. x || (a == j)) w in
    let here : next a ≡ true = e a ∙ ap (λ x. new a || x) (eq-eqb a a refl) ∙ or-true (new a) in
    record {
      kept = λ j w. stays j (h.kept j w);
      found = λ j w. elim (Contains-take_more nodes i j l w) [
        | inl v ↦ stays j (h.found j v)
        | inr q ↦ rw (sym q) here
      ];
      only = λ j w. elim (cases_eq a j) [
        | inl q ↦ inr (rw (sym q) (Contains-take_last nodes i l))
        | inr n ↦
            let was : new j ≡ true = sym (e j ∙ ap (λ x. new j || x) (ne_eqb a j n) ∙ or-false (new j)) ∙ w in
            elim (h.only j was) [ inl v ↦ inl v | inr v ↦ inr (Contains-take_kept nodes i j l v) ]
      ];
    }

-- what did not pass, and is no node that was put in, does not pass
pub joined_same : (old new : ℕ → Bool) (nodes : List ℕ) (a : ℕ) → IsJoined old new nodes → (Contains nodes a → ⊥) →
    old a ≡ new a
joined_same old new nodes a h n = elim (old a) as (λ b. old a ≡ b → old a ≡ new a) [
  | true ↦ λ was. was ∙ sym (h.kept a was)
  | false ↦ λ not. not ∙ sym (false_from_ne_true (new a) (λ is. elim (h.only a is) [
    | inl was ↦ false≢true (sym not ∙ was)
    | inr w ↦ n w
  ]))
] refl

-- one more node was put in, and the bound is above its rank
pub AreBelow-more : (ranks set next : List ℕ) (a top end : ℕ) → AreBelow ranks set top →
    ((j : ℕ) → has_bit next j ≡ (has_bit set j || (a == j))) → a < length ranks → top ≤ end → get_or ranks a 0 < end →
    AreBelow ranks next end
AreBelow-more ranks set next a top end h e l up over j m = elim (cases_eq a j) [
  | inl q ↦ rw (sym q) (l, over)
  | inr n ↦
      let was : Has set j = sym (e j ∙ ap (λ x. has_bit set j || x) (ne_eqb a j n) ∙ or-false (has_bit set j)) ∙ m in
      ((h j was).0, omega (arith, (h j was).1, up))
]

-- whether a node has a slot is told by its rank
pub has_slot-of : (ranks slots : List ℕ) (a : ℕ) → a < length ranks →
    has_slot ranks slots a ≡ has_bit slots (get_or ranks a 0)
has_slot-of ranks slots a l = ap (λ x. x && has_bit slots (get_or ranks a 0)) (lt-ltb a (length ranks) l)

-- what is no node has none
pub has_slot-past : (ranks slots : List ℕ) (a : ℕ) → length ranks ≤ a → has_slot ranks slots a ≡ false
has_slot-past ranks slots a p = ap (λ x. x && has_bit slots (get_or ranks a 0)) (le-ltb a (length ranks) p)

-- so what has one is a node
pub has_slot-below : (ranks slots : List ℕ) (a : ℕ) → has_slot ranks slots a ≡ true → a < length ranks
has_slot-below ranks slots a is = elim (cases_lt a (length ranks)) [
  | inl l ↦ l
  | inr p ↦ absurd (false≢true (sym (has_slot-past ranks slots a p) ∙ is))
]

-- the node of a rank has a slot where the rank is one
pub has_slot-at : (nodes ranks slots : List ℕ) (r : ℕ) → IsInverse nodes ranks → r < length nodes →
    has_slot ranks slots (get_or nodes r 0) ≡ has_bit slots r
has_slot-at nodes ranks slots r inverse l =
    let there = inverse.there r l in has_slot-of ranks slots (get_or nodes r 0) there.0 ∙ ap (has_bit slots) there.1

-- without slots none has one
pub has_slot-none : (ranks slots : List ℕ) (a : ℕ) → ((r : ℕ) → has_bit slots r ≡ false) →
    has_slot ranks slots a ≡ false
has_slot-none ranks slots a none = elim (cases_lt a (length ranks)) [
  | inl l ↦ has_slot-of ranks slots a l ∙ none (get_or ranks a 0)
  | inr p ↦ has_slot-past ranks slots a p
]

-- nodes of one rank are one
one_rank : (nodes ranks : List ℕ) (a j : ℕ) → IsInverse nodes ranks → a < length ranks → j < length ranks →
    (get_or ranks a 0 == get_or ranks j 0) ≡ (a == j)
one_rank nodes ranks a j inverse l m = elim (cases_eq a j) [
  | inl q ↦ eq-eqb _ _ (ap (λ x. get_or ranks x 0) q) ∙ sym (eq-eqb a j q)
  | inr n ↦ ne_eqb _ _ (λ q. n (sym (inverse.back a l).1 ∙ ap (λ x. get_or nodes x 0) q ∙ (inverse.back j m).1))
      ∙ sym (ne_eqb a j n)
]

-- the rank of one more node was put in
pub has_slot-more : (nodes ranks slots more : List ℕ) (a : ℕ) → IsInverse nodes ranks → a < length ranks →
    ((j : ℕ) → has_bit more j ≡ (has_bit slots j || (get_or ranks a 0 == j))) → (j : ℕ) →
    has_slot ranks more j ≡ (has_slot ranks slots j || (a == j))
has_slot-more nodes ranks slots more a inverse l put j = elim (cases_lt j (length ranks)) [
  | inl under ↦ has_slot-of ranks more j under ∙ put (get_or ranks j 0)
      ∙ ap (λ x. has_bit slots (get_or ranks j 0) || x) (one_rank nodes ranks a j inverse l under)
      ∙ ap (λ x. x || (a == j)) (sym (has_slot-of ranks slots j under))
  | inr past ↦ has_slot-past ranks more j past ∙ sym (ap (λ x. x || (a == j)) (has_slot-past ranks slots j past)
      ∙ ne_eqb a j (omega (arith, l, past)))
]

-- and the slots are ranks still
pub AreRanks-more : (nodes ranks slots more : List ℕ) (a : ℕ) → IsInverse nodes ranks → AreRanks ranks slots →
    a < length ranks → ((j : ℕ) → has_bit more j ≡ (has_bit slots j || (get_or ranks a 0 == j))) → AreRanks ranks more
AreRanks-more nodes ranks slots more a inverse h l put j is = elim (cases_eq (get_or ranks a 0) j) [
  | inl q ↦ omega (arith, sym q, (inverse.back a l).0, inverse.long)
  | inr n ↦ h j (sym (put j ∙ ap (λ x. has_bit slots j || x) (ne_eqb _ j n) ∙ or-false (has_bit slots j)) ∙ is)
]
