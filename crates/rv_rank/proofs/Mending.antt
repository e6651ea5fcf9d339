-- What the members' new places make of the ranks.
use Rattle.rv_rank.proofs.Common.{cases_Bool}
use Rattle.rv_rank.proofs.Common.{◌≡◌, ◌≢◌, ℕ, zero, suc, ◌+◌, ◌-◌, ◌<◌, ◌≤◌, ◌⊎◌, ◌||◌, Bool, true, false, cond}
use Rattle.rv_rank.proofs.Common.{List, [], ◌∷◌, ◌++◌, length, get_or, set, inl, inr, sym, ◌∙◌, arith, ap, refl}
use Rattle.rv_rank.proofs.Common.{length-append, filter, get_or-set_same, get_or-set_other, length-set}
use Rattle.rv_rank.proofs.Common.{get_or_append_left, get_or_at, get_or-append_right, get_or_push, length_push}
use Rattle.rv_rank.proofs.Common.{cases_eq, cases_lt, false≢true, rules, common_steps, IsInverse, IsMended}
use Rattle.rv_rank.proofs.Common.{IsLocal}
use Rattle.rv_rank.proofs.Counting.{count_to, count_mono, count_strict, count_all}
use Rattle.rv_rank.proofs.Counting.{count_below-count_to, filter_at, filter_from}

-- no two nodes have one rank
pub once_from_inverse : (old old_ranks : List ℕ) → IsInverse old old_ranks → (a b : ℕ) → a < length old_ranks →
    b < length old_ranks → get_or old_ranks a 0 ≡ get_or old_ranks b 0 → a ≡ b
once_from_inverse old old_ranks h a b p q e = sym (h.back a p).1 ∙ ap (λ x. get_or old x 0) e ∙ (h.back b q).1

-- whether either test passes
abbrev pub either_of : (ℕ → Bool) → (ℕ → Bool) → ℕ → Bool
either_of b f a = b a || f a

sum_step : (p q : Bool) (m k l : ℕ) → (p ≡ true → q ≡ false) → m ≡ k + l →
    cond (p || q) (suc m) m ≡ cond p (suc k) k + cond q (suc l) l
sum_step true true m k l d e = absurd (false≢true (sym (d refl)))
sum_step true false m k l d e = omega (arith, e)
sum_step false true m k l d e = omega (arith, e)
sum_step false false m k l d e = e

-- the counts of two kinds that exclude each other add up
pub count_sum : (b f : ℕ → Bool) → ((a : ℕ) → b a ≡ true → f a ≡ false) → (xs : List ℕ) (k : ℕ) →
    count_to (either_of b f) xs k ≡ count_to b xs k + count_to f xs k
count_sum b f d xs zero = omega arith
count_sum b f d [] (suc k) = omega arith
count_sum b f d (x ∷ xs) (suc k) =
    sum_step (b x) (f x) (count_to (either_of b f) xs k) (count_to b xs k) (count_to f xs k) (d x)
    (count_sum b f d xs k)

or_true : (p : Bool) → (p || true) ≡ true
or_true true = refl
or_true false = refl

-- one of the two holds
pub or_cases : (p q : Bool) → (p || q) ≡ true → (p ≡ true) ⊎ (q ≡ true)
or_cases true q e = inl refl
or_cases false q e = inr e

module _ (b f : ℕ → Bool) (nodes ranks : List ℕ) (inverse : IsInverse nodes ranks) (apart : (a : ℕ) →
    b a ≡ true → f a ≡ false) (new_b : b (length nodes) ≡ false) (new_f : f (length nodes) ≡ false) where
  -- the nodes that move, with the new one between those before it and those behind it
  abbrev pub members : List ℕ
  members = filter b nodes ++ length nodes ∷ filter f nodes

  -- where a member stands among the members
  abbrev pub place : ℕ → ℕ
  place a = cond (b a) (count_to b nodes (get_or ranks a 0))
      (cond (f a) (length (filter b nodes) + 1 + count_to f nodes (get_or ranks a 0)) (length (filter b nodes)))

  -- there is one member more than slots
  pub members_long : length members ≡ count_to (either_of b f) nodes (length nodes) + 1
  members_long = grind (arith, common_steps, length-append, count_sum, count_all)

  place_back : (a : ℕ) → b a ≡ true → place a ≡ count_to b nodes (get_or ranks a 0)
  place_back a e = grind (arith, common_steps)

  place_ahead : (a : ℕ) → b a ≡ false → f a ≡ true →
      place a ≡ length (filter b nodes) + 1 + count_to f nodes (get_or ranks a 0)
  place_ahead a e g = grind (arith, common_steps)

  place_new : place (length nodes) ≡ length (filter b nodes)
  place_new = grind (arith, common_steps)

  not_back : (a : ℕ) → f a ≡ true → b a ≡ false
  not_back a g = elim (cases_Bool (b a)) [ inl e ↦ absurd (false≢true (sym (apart a e) ∙ g)) | inr e ↦ e ]

  -- a member is where its place says
  at_back : (a : ℕ) → a < length nodes → b a ≡ true → (place a < length members) × (get_or members (place a) 0 ≡ a)
  at_back a l e =
      grind (
        arith,
        common_steps,
        filter_at,
        place_back,
        length-append,
        get_or_append_left,
        count_to,
      )

  at_new : (place (length nodes) < length members) × (get_or members (place (length nodes)) 0 ≡ length nodes)
  at_new = grind (arith, common_steps)

  at_ahead : (a : ℕ) → a < length nodes → f a ≡ true → (place a < length members) × (get_or members (place a) 0 ≡ a)
  at_ahead a l e =
      let i = inverse.back a (omega (arith, l, inverse.long)) in
      let h = filter_at f nodes (get_or ranks a 0) i.0 (ap f i.1 ∙ e) in
      let q = place_ahead a (not_back a e) e in
      let c = count_to f nodes (get_or ranks a 0) in
      let n = length (filter b nodes) in
      let r = get_or-append_right (filter b nodes) (length nodes ∷ filter f nodes) n (n + 1 + c) 0 refl
      (omega arith) in
      let s : n + 1 + c - n ≡ suc c = omega arith in
      rw q (
        omega (arith, h.0, length-append (filter b nodes) (length nodes ∷ filter f nodes)),
        r ∙
            ap (λ k. get_or (length nodes ∷ filter f nodes) k 0) s ∙ h.1 ∙ i.1,
      )

  -- what stands among the members, by its place
  from_place : (j : ℕ) → j < length members → (a : ℕ) × (get_or members j 0 ≡ a) × (place a ≡ j) ×
      (((a < length nodes) × (either_of b f a ≡ true)) ⊎ (a ≡ length nodes))
  from_place j l =
      let n = length (filter b nodes) in
      let long = length-append (filter b nodes) (length nodes ∷ filter f nodes) in
      elim (cases_lt j n) [
        | inl low ↦
            let h = filter_from b nodes j low in
            let i = inverse.there h.0 h.1 in
            let a = get_or nodes h.0 0 in (
              a,
              get_or_append_left (filter b nodes) (length nodes ∷ filter f nodes) 0 j low ∙ sym h.4,
              place_back a h.2 ∙ ap (count_to b nodes) i.1 ∙ h.3,
              inl (omega (arith, i.0, inverse.long), ap (λ t. t || f a) h.2),
            )
        | inr high ↦ elim (cases_eq j n) [
          | inl q ↦ (
            length nodes,
            get_or_at (filter b nodes) (length nodes) (filter f nodes) 0 j (sym q),
            place_new ∙ sym q,
            inr refl,
          )
          | inr more ↦
              let k = j - n - 1 in
              let h = filter_from f nodes k (omega (arith, long)) in
              let i = inverse.there h.0 h.1 in
              let a = get_or nodes h.0 0 in
              let r = get_or-append_right (filter b nodes) (length nodes ∷ filter f nodes) n j 0 refl high in
              let s : j - n ≡ suc k = omega arith in
              let c : count_to f nodes (get_or ranks a 0) ≡ k = ap (count_to f nodes) i.1 ∙ h.3 in (
                a,
                r ∙ ap (λ x. get_or (length nodes ∷ filter f nodes) x 0) s ∙ sym h.4,
                place_ahead a (not_back a h.2) h.2 ∙ omega (arith, c),
                inl (omega (arith, i.0, inverse.long), ap (λ t. b a || t) h.2 ∙ or_true (b a)),
              )
        ]
      ]

  -- no member stands twice
  pub members_apart : (i j : ℕ) → i < j → j < length members → get_or members i 0 ≢ get_or members j 0
  members_apart i j l m e =
      let p = from_place i (omega arith) in
      let q = from_place j m in
      let same : p.0 ≡ q.0 = sym p.1 ∙ e ∙ q.1 in
      omega (arith, p.2, q.2, ap place same)

  -- each member is a node or the new one
  pub members_below : (j : ℕ) → j < length members → get_or members j 0 < length nodes + 1
  members_below j m =
      let p = from_place j m in
      rw p.1 (elim p.3 [ inl w ↦ omega (arith, w.0) | inr q ↦ omega (arith, q) ])

  -- what was not found is no member
  pub not_member : (a : ℕ) → a < length nodes → either_of b f a ≡ false → (j : ℕ) → j < length members →
      get_or members j 0 ≢ a
  not_member a l e j m q =
      let p = from_place j m in
      let same : p.0 ≡ a = sym p.1 ∙ q in
      elim p.3 [
        | inl w ↦ false≢true (sym e ∙ ap (either_of b f) (sym same) ∙ w.1)
        | inr r ↦ omega (arith, same, r, l)
      ]

  module _ (test : ℕ → Bool) (tests : (k : ℕ) → k < length nodes → test k ≡ either_of b f (get_or nodes k 0))
      (low : ℕ) (within : low ≤ length nodes) (lowest : low < length nodes →
      f (get_or nodes low 0) ≡ true) (above_b : (a : ℕ) → a < length nodes → b a ≡ true →
      low ≤ get_or ranks a 0) (above_f : (a : ℕ) → a < length nodes → f a ≡ true →
      low ≤ get_or ranks a 0) (ranks0 nodes1 ranks1 : List ℕ) (begun : ranks0 ≡ ranks ++ length nodes ∷ [])
      (h : IsMended test members nodes ranks0 nodes1 ranks1 (length nodes)) where
    -- the node that comes last
    abbrev pub last : ℕ
    last = get_or members (count_to (either_of b f) nodes (length nodes)) 0

    -- the nodes by rank, when all have moved
    abbrev pub final_nodes : List ℕ
    final_nodes = nodes1 ++ last ∷ []

    -- the ranks by node, when all have moved
    abbrev pub final_ranks : List ℕ
    final_ranks = set ranks1 last (length nodes)

    long_start : length ranks0 ≡ length nodes + 1
    long_start = omega (arith, ap length begun, length_push ranks (length nodes), inverse.long)

    -- there is a rank more
    pub long_final : length final_ranks ≡ length nodes + 1
    long_final = omega (arith, length-set ranks1 last (length nodes), h.long_ranks, long_start)

    -- and a node more
    pub long_final_nodes : length final_nodes ≡ length nodes + 1
    long_final_nodes = omega (arith, length_push nodes1 last, h.long_nodes)

    last_room : count_to (either_of b f) nodes (length nodes) < length members
    last_room = omega (arith, members_long)

    last_below : last < length ranks1
    last_below = omega (
      arith,
      members_below (count_to (either_of b f) nodes (length nodes)) last_room,
      h.long_ranks,
      long_start,
    )

    node_before : (k : ℕ) → k < length nodes → get_or final_nodes k 0 ≡ get_or nodes1 k 0
    node_before k l = get_or_append_left nodes1 (last ∷ []) 0 k (omega (arith, h.long_nodes))

    node_last : get_or final_nodes (length nodes) 0 ≡ last
    node_last = get_or_push nodes1 last 0 (length nodes) h.long_nodes

    rank_last : get_or final_ranks last 0 ≡ length nodes
    rank_last = get_or-set_same ranks1 last (length nodes) 0 last_below

    -- at a slot stands the member of its count
    filled_at : (k : ℕ) → k < length nodes → either_of b f (get_or nodes k 0) ≡ true →
        (get_or final_nodes k 0 ≡ get_or members (count_to (either_of b f) nodes k) 0) ×
        (get_or final_ranks (get_or members (count_to (either_of b f) nodes k) 0) 0 ≡ k)
    filled_at k l e =
        let same = count_below-count_to test (either_of b f) nodes k tests (omega arith) in
        let p = rw same at (h.filled k l (tests k l ∙ e)) in
        let less = count_strict (either_of b f) nodes k (length nodes) l e l in
        let d = members_apart (count_to (either_of b f) nodes k) (count_to (either_of b f) nodes (length nodes))
        less last_room in (
          node_before k l ∙ p.0,
          get_or-set_other ranks1 last (get_or members (count_to (either_of b f) nodes k) 0) (length nodes) 0
              d ∙ p.1,
        )

    spared_at : (k : ℕ) → k < length nodes → either_of b f (get_or nodes k 0) ≡ false →
        (get_or final_nodes k 0 ≡ get_or nodes k 0) × (get_or final_ranks (get_or nodes k 0) 0 ≡ k)
    spared_at k l e =
        let i = inverse.there k l in
        let below : get_or nodes k 0 < length nodes = omega (arith, i.0, inverse.long) in
        let n = not_member (get_or nodes k 0) below e in
        let d : get_or nodes k 0 ≢ last =
        λ q. n (count_to (either_of b f) nodes (length nodes)) last_room (sym q) in (
          node_before k l ∙ h.spared k l (tests k l ∙ e),
          get_or-set_other ranks1 last (get_or nodes k 0) (length nodes) 0 d ∙ h.others (get_or nodes k 0) n ∙
              ap (λ x. get_or x (get_or nodes k 0) 0) begun ∙
              get_or_append_left ranks (length nodes ∷ []) 0 (get_or nodes k 0) i.0 ∙ i.1,
        )

    slot_low : (k : ℕ) → k < length nodes → either_of b f (get_or nodes k 0) ≡ true → low ≤ k
    slot_low k l e = search (or_cases, rules)

    -- the slot of a member, or of the new node
    slot : (a : ℕ) → (place a < length members) × (get_or members (place a) 0 ≡ a) →
        (k : ℕ) × (k ≤ length nodes) × (get_or final_ranks a 0 ≡ k) × (get_or final_nodes k 0 ≡ a) ×
        (count_to (either_of b f) nodes k ≡ place a) × (low ≤ k)
    slot a w = elim (cases_lt (place a) (count_to (either_of b f) nodes (length nodes))) [
      | inl less ↦
          let o = filter_from (either_of b f) nodes (place a) (omega (arith, count_all (either_of b f) nodes)) in
          let p = filled_at o.0 o.1 o.2 in
          let q : get_or members (count_to (either_of b f) nodes o.0) 0 ≡ a =
          grind (arith, common_steps) in (
            o.0,
            omega (arith, o.1),
            sym (ap (λ x. get_or final_ranks x 0) q) ∙ p.1,
            p.0 ∙ q,
            o.3,
            slot_low o.0 o.1 o.2,
          )
      | inr at_end ↦
          let e : place a ≡ count_to (either_of b f) nodes (length nodes) = omega (arith, w.0, members_long) in
          let q : last ≡ a = ap (λ x. get_or members x 0) (sym e) ∙ w.1 in (
            length nodes,
            omega arith,
            sym (ap (λ x. get_or final_ranks x 0) q) ∙ rank_last,
            node_last ∙ q,
            sym e,
            within,
          )
    ]

    slot_back : (a : ℕ) → a < length nodes → b a ≡ true → (k : ℕ) × (k ≤ length nodes) ×
        (get_or final_ranks a 0 ≡ k) × (get_or final_nodes k 0 ≡ a) ×
        (count_to (either_of b f) nodes k ≡ place a) × (low ≤ k)
    slot_back a l e = slot a (at_back a l e)

    slot_ahead : (a : ℕ) → a < length nodes → f a ≡ true → (k : ℕ) × (k ≤ length nodes) ×
        (get_or final_ranks a 0 ≡ k) × (get_or final_nodes k 0 ≡ a) ×
        (count_to (either_of b f) nodes k ≡ place a) × (low ≤ k)
    slot_ahead a l e = slot a (at_ahead a l e)

    slot_new : (k : ℕ) × (k ≤ length nodes) × (get_or final_ranks (length nodes) 0 ≡ k) ×
        (get_or final_nodes k 0 ≡ length nodes) × (count_to (either_of b f) nodes k ≡ place (length nodes)) ×
        (low ≤ k)
    slot_new = slot (length nodes) at_new

    slot_member : (a : ℕ) → a < length nodes → either_of b f a ≡ true → (k : ℕ) × (k ≤ length nodes) ×
        (get_or final_ranks a 0 ≡ k) × (get_or final_nodes k 0 ≡ a) ×
        (count_to (either_of b f) nodes k ≡ place a) × (low ≤ k)
    slot_member a l e = elim (or_cases (b a) (f a) e) [ inl y ↦ slot_back a l y | inr y ↦ slot_ahead a l y ]

    -- places in order give slots in order
    slots_rise : (k l : ℕ) → count_to (either_of b f) nodes k < count_to (either_of b f) nodes l → k < l
    slots_rise k l c = grind (arith, common_steps, cases_lt, count_mono)

    back_at : (a : ℕ) → a < length final_ranks → (get_or final_ranks a 0 < length final_nodes) ×
        (get_or final_nodes (get_or final_ranks a 0) 0 ≡ a)
    back_at a l = elim (cases_lt a (length nodes)) [
      | inl in_old ↦ elim (cases_Bool (either_of b f a)) [
        | inl e ↦
            let s = slot_member a in_old e in
            rw s.2 (omega (arith, s.1, long_final_nodes), s.3)
        | inr n ↦
            let i = inverse.back a (omega (arith, in_old, inverse.long)) in
            let p = spared_at (get_or ranks a 0) i.0 (ap (either_of b f) i.1 ∙ n) in
            let q : get_or final_ranks a 0 ≡ get_or ranks a 0 = sym (ap (λ x. get_or final_ranks x 0) i.1) ∙ p.1 in
            rw q (omega (arith, i.0, long_final_nodes), p.0 ∙ i.1)
      ]
      | inr at_end ↦
          let q : a ≡ length nodes = omega (arith, long_final) in
          let s = slot_new in
          let r : get_or final_ranks a 0 ≡ s.0 = ap (λ x. get_or final_ranks x 0) q ∙ s.2 in
          rw r (omega (arith, s.1, long_final_nodes), s.3 ∙ sym q)
    ]

    there_at : (k : ℕ) → k < length final_nodes → (get_or final_nodes k 0 < length final_ranks) ×
        (get_or final_ranks (get_or final_nodes k 0) 0 ≡ k)
    there_at k l = elim (cases_lt k (length nodes)) [
      | inl in_old ↦ elim (cases_Bool (either_of b f (get_or nodes k 0))) [
        | inl e ↦
            let p = filled_at k in_old e in
            let m = count_strict (either_of b f) nodes k (length nodes) in_old e in_old in
            rw p.0 (
              omega (
                arith,
                members_below (count_to (either_of b f) nodes k) (omega (arith, members_long)),
                long_final,
              ),
              p.1,
            )
        | inr n ↦
            let p = spared_at k in_old n in
            let i = inverse.there k in_old in
            rw p.0 (omega (arith, i.0, inverse.long, long_final), p.1)
      ]
      | inr at_end ↦
          let q : k ≡ length nodes = omega (arith, long_final_nodes) in
          let e : get_or final_nodes k 0 ≡ last = ap (λ x. get_or final_nodes x 0) q ∙ node_last in
          rw e (omega (arith, last_below, length-set ranks1 last (length nodes)), rank_last ∙ sym q)
    ]

    -- mended nodes and ranks are inverse
    pub mended_inverse : IsInverse final_nodes final_ranks
    mended_inverse = record { long = long_final_nodes ∙ sym long_final; there = there_at; back = back_at }

    count_ranks : length ranks ≡ length nodes
    count_ranks = sym inverse.long

    rank_of : (a : ℕ) → a < length nodes → (get_or ranks a 0 < length nodes) × (get_or nodes (get_or ranks a 0) 0 ≡ a)
    rank_of a l = inverse.back a (omega (arith, count_ranks))

    -- the first slot is that of a node found forward, so each node found backward moves down
    lower_at : (a : ℕ) → a < length nodes → b a ≡ true → get_or final_ranks a 0 < get_or ranks a 0
    lower_at a l e =
        let s = slot_back a l e in
        let i = rank_of a l in
        let sum = count_sum b f apart nodes (get_or ranks a 0) in
        let high = above_b a l e in
        let first = lowest (omega (arith, high, i.0)) in
        let differs : low ≢ get_or ranks a 0 = search (false≢true, rules) in
        let before = count_strict f nodes low (get_or ranks a 0) (omega (arith, high, i.0)) first (omega arith) in
        omega (arith, s.2, slots_rise s.0 (get_or ranks a 0) (omega (arith, s.4, place_back a e, sum, before)))

    higher_at : (a : ℕ) → a < length nodes → f a ≡ true → get_or ranks a 0 < get_or final_ranks a 0
    higher_at a l e =
        let s = slot_ahead a l e in
        let i = rank_of a l in
        let sum = count_sum b f apart nodes (get_or ranks a 0) in
        let most = count_mono b nodes (get_or ranks a 0) (length nodes) (omega (arith, i.0)) in
        let k = slots_rise (get_or ranks a 0) s.0 (omega (
          arith,
          s.4,
          place_ahead a (not_back a e) e,
          sum,
          most,
          count_all b nodes,
        )) in
        omega (arith, s.2, k)

    -- and all other ranks stay
    pub mended_local : IsLocal b f low ranks final_ranks
    mended_local = record {
      long = omega (arith, long_final, count_ranks);
      below = λ a l. omega (arith, (back_at a l).0, long_final, long_final_nodes);
      once = once_from_inverse final_nodes final_ranks mended_inverse;
      every = λ r l. let t =
          there_at r (omega (arith, long_final, long_final_nodes)) in (get_or final_nodes r 0, t.0, t.1);
      spared = λ a l e.
          let i = rank_of a (omega (arith, count_ranks)) in
          let p = spared_at (get_or ranks a 0) i.0 (ap (either_of b f) i.1 ∙ e) in
          sym (ap (λ x. get_or final_ranks x 0) i.1) ∙ p.1;
      lower = λ a l e. lower_at a (omega (arith, count_ranks)) e;
      higher = λ a l e. higher_at a (omega (arith, count_ranks)) e;
      least = λ a l e.
          let m : a < length nodes = omega (arith, count_ranks) in
          let s = slot_member a m e in
          omega (arith, s.2, s.5);
      least_new = let s = slot_new in rw count_ranks (omega (arith, s.2, s.5));
      front = λ a l e.
          let m : a < length nodes = omega (arith, count_ranks) in
          let s = slot_back a m e in
          let n = slot_new in
          let i = rank_of a m in
          let less = count_strict b nodes (get_or ranks a 0) (length nodes) i.0 (ap b i.1 ∙ e) i.0 in
          let k = slots_rise s.0 n.0 (omega (arith, s.4, n.4, place_back a e, place_new, less, count_all b nodes)) in
          rw count_ranks (omega (arith, s.2, n.2, k));
      rear = λ a l e.
          let m : a < length nodes = omega (arith, count_ranks) in
          let s = slot_ahead a m e in
          let n = slot_new in
          let k = slots_rise n.0 s.0 (omega (arith, s.4, n.4, place_ahead a (not_back a e) e, place_new)) in
          rw count_ranks (omega (arith, s.2, n.2, k));
      kept_back = λ a c l m e g r.
          let la : a < length nodes = omega (arith, count_ranks) in
          let lc : c < length nodes = omega (arith, count_ranks) in
          let s = slot_back a la e in
          let t = slot_back c lc g in
          let i = rank_of a la in
          let less = count_strict b nodes (get_or ranks a 0) (get_or ranks c 0) i.0 (ap b i.1 ∙ e) r in
          let k = slots_rise s.0 t.0 (omega (arith, s.4, t.4, place_back a e, place_back c g, less)) in
          omega (arith, s.2, t.2, k);
      kept_ahead = λ a c l m e g r.
          let la : a < length nodes = omega (arith, count_ranks) in
          let lc : c < length nodes = omega (arith, count_ranks) in
          let s = slot_ahead a la e in
          let t = slot_ahead c lc g in
          let i = rank_of a la in
          let less = count_strict f nodes (get_or ranks a 0) (get_or ranks c 0) i.0 (ap f i.1 ∙ e) r in
          let k = slots_rise s.0 t.0 (omega (
            arith,
            s.4,
            t.4,
            place_ahead a (not_back a e) e,
            place_ahead c (not_back c g) g,
            less,
          )) in
          omega (arith, s.2, t.2, k);
    }
