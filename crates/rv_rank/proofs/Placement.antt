-- What the affected nodes and the mended ranks make of a placement.
use Rattle.rv_rank.proofs.Common.{cases_Bool}
use Rattle.rv_rank.proofs.Common.{◌≡◌, ◌≢◌, ℕ, ◌+◌, ◌-◌, ◌%◌, ◌^◌, ◌<◌, ◌≤◌, ◌⊎◌, ◌||◌, Bool, true, false, not}
use Rattle.rv_rank.proofs.Common.{cond, List, [], ◌++◌, length, get_or, reverse, inl, inr, sym, ◌∙◌, arith, ap}
use Rattle.rv_rank.proofs.Common.{refl, subst, length-append, eqb, All, Contains, filter, get_or_append_left}
use Rattle.rv_rank.proofs.Common.{get_or-append_right, get_or-reverse, length-reverse, All-contains}
use Rattle.rv_rank.proofs.Common.{Contains-get_or, Contains-append_left, Contains-append_right}
use Rattle.rv_rank.proofs.Common.{Contains-append_cases, filter_passes, Contains-permutation}
use Rattle.rv_rank.proofs.Common.{IsPermutation-reverse, IsPermutation-sym, cases_eq, cases_lt, false≢true}
use Rattle.rv_rank.proofs.Common.{ne_eqb, eq-eqb, rules, Found, Reaches, Edge, here, step, IsOrder}
use Rattle.rv_rank.proofs.Common.{IsGrown, IsInverse, Ordering, is_ahead_in, is_behind_in, IsFound}
use Rattle.rv_rank.proofs.Common.{found_ahead, found_behind, IsPlan, IsLocal, Refused, Circle, NoMemory, Ranking}
use Rattle.rv_rank.proofs.Common.{IsAffected, ListsOnce, OnlyAffected, IsRefusedRound, IsMover, IsFreed, moved_of}
use Rattle.std.proofs.lemmas.Bool.{false_from_ne_true}
use Rattle.rv_rank.proofs.Finding.{traced_is}
use Rattle.rv_rank.proofs.Searching.{edge_below, reaches_append}
use Rattle.rv_rank.proofs.Growth.{edge_from}
use Rattle.rv_rank.proofs.Counting.{count_to, filter_at, filter_from}
use Rattle.rv_rank.proofs.Moving.{moved_of-listed}

-- what reaches a node reaches what that node reaches
reaches_both : (edges : List (List ℕ)) (a b c : ℕ) → Reaches edges a b → Reaches edges b c → Reaches edges a c
reaches_both edges a b c here q = q
reaches_both edges a b c (step {b = x} e p) q = step e (reaches_both edges x b c p q)

contains_passing : (t : ℕ → Bool) (xs : List ℕ) (k a : ℕ) → k < length xs → get_or xs k 0 ≡ a → t a ≡ true →
    Contains (filter t xs) a
contains_passing t xs k a l e p =
    let f = filter_at t xs k l (ap t e ∙ p) in
    subst (Contains (filter t xs)) (f.1 ∙ e) (Contains-get_or (filter t xs) (count_to t xs k) 0 f.0)

passing : (t : ℕ → Bool) (xs : List ℕ) (a : ℕ) → Contains (filter t xs) a → t a ≡ true
passing t xs a w = All-contains (λ x. t x ≡ true) (filter t xs) a (filter_passes t xs) w

differs_true : (x y : ℕ) → x ≢ y → not (eqb x y) ≡ true
differs_true x y n = ap not (ne_eqb x y n)

true_differs : (x y : ℕ) → not (eqb x y) ≡ true → x ≢ y
true_differs x y e q = false≢true (ap not (sym (eq-eqb x y q)) ∙ e)

module _ (edges : List (List ℕ)) (order : Ordering) (preds succs : List ℕ) (found : Found)
    (list : List ℕ) (o : IsOrder edges order.ranks) (inverse : IsInverse order.nodes order.ranks)
    (h : IsFound edges order preds succs found list) where
  abbrev low : ℕ
  low = found.low

  abbrev b : ℕ → Bool
  b = is_behind_in found order.ranks

  abbrev f : ℕ → Bool
  f = is_ahead_in found order.ranks

  abbrev forward : List ℕ
  forward = found_ahead found order

  abbrev backward : List ℕ
  backward = found_behind low order found.behind

  ahead_within : (a : ℕ) → f a ≡ true → (a < length order.ranks) × (low ≤ get_or order.ranks a 0) ×
      (get_or order.ranks a 0 < length order.ranks)
  ahead_within a e = let w = h.within a e in (w.0, w.1, o.below a w.0)

  behind_within : (a : ℕ) → b a ≡ true → (a < length order.ranks) × (low ≤ get_or order.ranks a 0) ×
      (get_or order.ranks a 0 < length order.ranks)
  behind_within a e =
      let l = h.nodes a e in
      (l, (traced_is low order.ranks found.behind a e).1, o.below a l)

  -- no node is behind and ahead
  pub apart : (a : ℕ) → b a ≡ true → f a ≡ false
  apart a e = false_from_ne_true (f a) (λ q.
      let p = h.ahead a q in
      let w = (h.behind a e).1 in
      h.free p.0 w.0 p.1 w.1 (reaches_both edges p.0 a w.0 p.2 w.2))

  ahead_closed : (a c : ℕ) → f a ≡ true → Edge edges a c → f c ≡ true
  ahead_closed a c e w = let p = h.ahead a e in h.all_ahead c (p.0, p.1, reaches_append edges p.0 a c p.2 w)

  behind_closed : (a c : ℕ) → b c ≡ true → Edge edges a c → low ≤ get_or order.ranks a 0 → b a ≡ true
  behind_closed a c e w up =
      let p = h.behind c e in
      let s = h.lowest (omega (arith, o.forward a c w, (behind_within c e).2)) in
      h.all_behind a ((s.0, s.1, omega (arith, s.2)), (p.1.0, p.1.1, step w p.1.2))

  neither : (a : ℕ) → b a ≡ false → f a ≡ false → (b a || f a) ≡ false
  neither a x y = ap (λ v. v || f a) x ∙ y

  behind_either : (a : ℕ) → b a ≡ true → (b a || f a) ≡ true
  behind_either a x = ap (λ v. v || f a) x

  -- the lowest rank is that of a node found forward
  first_ahead : low < length order.ranks → (s : ℕ) × (s < length order.ranks) × (f s ≡ true) ×
      (get_or order.ranks s 0 ≡ low)
  first_ahead l =
      let s = h.lowest l in
      let ahead = h.all_ahead s.0 (s.0, s.1, here) in
      (s.0, (ahead_within s.0 ahead).0, ahead, s.2)

  visits_each : (a : ℕ) → IsAffected edges order.ranks preds succs a → Contains list a
  visits_each a w =
      let i = inverse.back a w.1 in
      rw h.visits (elim w.0 [
        | inl x ↦ Contains-append_left forward (reverse backward) a
            (contains_passing f order.nodes (get_or order.ranks a 0) a i.0 i.1 (h.all_ahead a x))
        | inr x ↦ Contains-append_right forward (reverse backward) a
            (Contains-permutation backward (reverse backward) a
            (IsPermutation-reverse backward)
            (contains_passing b order.nodes (get_or order.ranks a 0) a i.0 i.1 (h.all_behind a x)))
      ])

  visits_cases : (a : ℕ) → Contains list a → (f a ≡ true) ⊎ (b a ≡ true)
  visits_cases a w =
      let c = rw h.visits at w in
      let back = backward in
      elim (Contains-append_cases forward (reverse back) a c) [
        | inl x ↦ inl (passing f order.nodes a x)
        | inr x ↦ inr (passing b order.nodes a (Contains-permutation (reverse back) back a
            (IsPermutation-sym back (reverse back) (IsPermutation-reverse back)) x))
      ]

  -- only affected nodes were visited
  pub visits_only : OnlyAffected edges order.ranks preds succs list
  visits_only a w = elim (visits_cases a w) [
    | inl x ↦ (inl (h.ahead a x), (ahead_within a x).0)
    | inr x ↦ (inr (h.behind a x), (behind_within a x).0)
  ]

  -- where a visited node stands among the visits
  place : ℕ → ℕ
  place a = cond (f a) (count_to f order.nodes (get_or order.ranks a 0))
      (length forward + (length backward - 1 - count_to b
      order.nodes (get_or order.ranks a 0)))

  visit_at : (k : ℕ) → k < length (forward ++ reverse backward) →
      place (get_or (forward ++ reverse backward) k 0) ≡ k
  unfolding place
  visit_at k l =
      let first = forward in
      let back = backward in
      let long = length-append first (reverse back) in
      let turned = length-reverse back in
      elim (cases_lt k (length first)) [
        | inl low_k ↦
            let w = filter_from f order.nodes k low_k in
            let i = inverse.there w.0 w.1 in
            let at : get_or (first ++ reverse back) k 0 ≡ get_or order.nodes w.0 0 =
            get_or_append_left first (reverse back) 0 k low_k ∙ sym w.4 in
            rw at (ap (λ t. cond t (count_to f order.nodes (get_or order.ranks (get_or order.nodes w.0 0) 0))
            (length first + (length back - 1 - count_to b order.nodes
            (get_or order.ranks (get_or order.nodes w.0 0) 0)))) w.2 ∙ ap (count_to f order.nodes) i.1 ∙
            w.3)
        | inr high_k ↦
            let j = k - length first in
            let w = filter_from b order.nodes (length back - 1 - j) (omega arith) in
            let i = inverse.there w.0 w.1 in
            let at : get_or (first ++ reverse back) k 0 ≡ get_or order.nodes w.0 0 =
            get_or-append_right first (reverse back) (length first) k 0 refl high_k ∙
            get_or-reverse back j 0 (omega arith) ∙ sym w.4 in
            let counted : count_to b order.nodes (get_or order.ranks (get_or order.nodes w.0 0) 0) ≡ length
            back - 1 - j = ap (count_to b order.nodes) i.1 ∙ w.3 in
            rw at (ap (λ t. cond t (count_to f order.nodes (get_or order.ranks (get_or order.nodes w.0 0) 0))
            (length first + (length back - 1 - count_to b order.nodes
            (get_or order.ranks (get_or order.nodes w.0 0) 0)))) (apart (get_or order.nodes w.0 0) w.2) ∙
            omega (arith, counted))
      ]

  visits_once : (i j : ℕ) → i < j → j < length list → get_or list i 0 ≢ get_or list j 0
  visits_once i j l m e =
      let n = rw h.visits at m in
      let same = rw h.visits at e in
      omega (arith, visit_at i (omega arith), visit_at j n, ap place same)

  -- and each of them once
  pub visits_listed : ListsOnce (IsAffected edges order.ranks preds succs) list
  visits_listed = record { each = visits_each; only = visits_only; once = visits_once }

  module _ (new_edges : List (List ℕ)) (new : List ℕ) (low_preds : All (λ p. p < length order.ranks) preds)
      (low_succs : All (λ s. s < length order.ranks) succs) (g : IsGrown edges new_edges preds succs)
      (l : IsLocal b f low order.ranks new) where
    kept_old : (a c : ℕ) → Edge edges a c → get_or new a 0 < get_or new c 0
    kept_old a c e =
        let la : a < length order.ranks = omega (arith, edge_from edges a c e, o.long) in
        let lc = edge_below edges order.ranks o a c e in
        let up = o.forward a c e in
        elim (cases_Bool (f a)) [
          | inl fa ↦ l.kept_ahead a c la lc fa (ahead_closed a c fa e) up
          | inr na ↦ elim (cases_Bool (b a)) [
            | inl ba ↦ elim (cases_Bool (b c)) [
              | inl bc ↦ l.kept_back a c la lc ba bc up
              | inr nb ↦ elim (cases_Bool (f c)) [
                | inl fc ↦ omega (arith, l.front a la ba, l.rear c lc fc)
                | inr nc ↦ omega (arith, l.lower a la ba, up, l.spared c lc (neither c nb nc))
              ]
            ]
            | inr nb ↦
                let sa = l.spared a la (neither a nb na) in
                elim (cases_Bool (f c)) [
                  | inl fc ↦ omega (arith, sa, up, l.higher c lc fc)
                  | inr nc ↦ elim (cases_Bool (b c)) [
                    | inl bc ↦
                        let under : get_or order.ranks a 0 < low =
                        elim (cases_lt (get_or order.ranks a 0) low) [
                          | inl y ↦ y
                          | inr n ↦ absurd (false≢true (sym nb ∙ behind_closed a c bc e n))
                        ] in
                        omega (arith, sa, under, l.least c lc (behind_either c bc))
                    | inr mc ↦ omega (arith, sa, up, l.spared c lc (neither c mc nc))
                  ]
                ]
          ]
        ]

    pred_before : (p : ℕ) → Contains preds p → get_or new p 0 < get_or new (length order.ranks) 0
    pred_before p w =
        let lp = All-contains (λ p. p < length order.ranks) preds p low_preds w in
        elim (cases_Bool (b p)) [
          | inl bp ↦ l.front p lp bp
          | inr nb ↦
              let nf : f p ≡ false = elim (cases_Bool (f p)) [
                | inl fp ↦ let s = h.ahead p fp in absurd (h.free s.0 p s.1 w s.2)
                | inr n ↦ n
              ] in
              let under : get_or order.ranks p 0 < low = elim (cases_lt (get_or order.ranks p 0) low) [
                | inl y ↦ y
                | inr n ↦
                    let s = h.lowest (omega (arith, o.below p lp)) in
                    absurd (false≢true (sym nb ∙ h.all_behind p ((s.0, s.1, omega (arith, s.2)), (p, w, here))))
              ] in
              omega (arith, l.spared p lp (neither p nb nf), under, l.least_new)
        ]

    -- every edge goes to a higher rank
    pub ordered : IsOrder new_edges new
    ordered = record {
      long = omega (arith, l.long, g.long, o.long);
      below = l.below;
      once = l.once;
      every = l.every;
      forward = λ a c e. elim (g.only a c e) [
        | inl old ↦ kept_old a c old
        | inr fresh ↦ elim fresh [
          | inl w ↦ let q : c ≡ length order.ranks = omega (arith, w.0, o.long) in rw q (pred_before a w.1)
          | inr w ↦
              let lc = All-contains (λ s. s < length order.ranks) succs c low_succs w.1 in
              let q : a ≡ length order.ranks = omega (arith, w.0, o.long) in
              rw q (l.rear c lc (h.all_ahead c (c, w.1, here)))
        ]
      ];
    }

    -- what is not affected keeps its rank
    pub spared : (a : ℕ) → a < length order.ranks → (IsAffected edges order.ranks preds succs a → ⊥) →
        get_or new a 0 ≡ get_or order.ranks a 0
    spared a la n = elim (cases_Bool (f a)) [
      | inl fa ↦ absurd (n (inl (h.ahead a fa), la))
      | inr na ↦ elim (cases_Bool (b a)) [
        | inl ba ↦ absurd (n (inr (h.behind a ba), la))
        | inr nb ↦ l.spared a la (neither a nb na)
      ]
    ]

    -- a mover has a rank that was freed
    pub exchanged : (a : ℕ) → IsAffected edges order.ranks preds succs a ⊎ (a ≡ length order.ranks) →
        (get_or new a 0 ≡ length order.ranks) ⊎ ((c : ℕ) × IsAffected edges order.ranks preds succs c ×
        (get_or order.ranks c 0 ≡ get_or new a 0))
    exchanged a w = elim (cases_eq (get_or new a 0) (length order.ranks)) [
      | inl q ↦ inl q
      | inr n ↦
          let la : a < length new =
          elim w [ inl x ↦ omega (arith, x.1, l.long) | inr x ↦ omega (arith, x, l.long) ] in
          let e = o.every (get_or new a 0) (omega (arith, l.below a la, l.long)) in
          let c = e.0 in
          elim (cases_Bool (f c)) [
            | inl fc ↦ inr (c, (inl (h.ahead c fc), e.1), e.2)
            | inr nc ↦ elim (cases_Bool (b c)) [
              | inl bc ↦ inr (c, (inr (h.behind c bc), e.1), e.2)
              | inr nb ↦
                  let same = l.once c a (omega (arith, e.1, l.long)) la (l.spared c e.1 (neither c nb nc) ∙ e.2) in
                  absurd (elim w [
                    | inl x ↦ elim x.0 [
                      | inl y ↦ false≢true (sym nc ∙ ap f same ∙ h.all_ahead a y)
                      | inr y ↦ false≢true (sym nb ∙ ap b same ∙ h.all_behind a y)
                    ]
                    | inr x ↦ omega (arith, same, x, e.1)
                  ])
            ]
          ]
    ]

    -- each rank that was freed is taken
    pub taken : (r : ℕ) → IsFreed edges order.ranks preds succs r →
        (a : ℕ) × IsMover edges order.ranks preds succs a × (get_or new a 0 ≡ r)
    taken r w =
        let within : r < length new = elim w [
          | inl q ↦ omega (arith, q, l.long)
          | inr c ↦ omega (arith, c.2, o.below c.0 c.1.1, l.long)
        ] in
        let e = l.every r within in
        let a = e.0 in
        elim (cases_eq a (length order.ranks)) [
          | inl q ↦ (a, inr q, e.2)
          | inr n ↦
              let la : a < length order.ranks = omega (arith, e.1, l.long) in
              elim (cases_Bool (f a)) [
                | inl fa ↦ (a, inl (inl (h.ahead a fa), la), e.2)
                | inr na ↦ elim (cases_Bool (b a)) [
                  | inl ba ↦ (a, inl (inr (h.behind a ba), la), e.2)
                  | inr nb ↦
                      let old = l.spared a la (neither a nb na) in
                      absurd (elim w [
                        | inl q ↦ omega (arith, old, e.2, q, o.below a la)
                        | inr c ↦
                            let same = o.once a c.0 la c.1.1 (sym old ∙ e.2 ∙ sym c.2) in
                            elim c.1.0 [
                              | inl y ↦ false≢true (sym na ∙ ap f same ∙ h.all_ahead c.0 y)
                              | inr y ↦ false≢true (sym nb ∙ ap b same ∙ h.all_behind c.0 y)
                            ]
                      ])
                ]
              ]
        ]

    -- without successors the new node is the highest
    pub greatest : succs ≡ [] → get_or new (length order.ranks) 0 ≡ length order.ranks
    greatest e = search (cases_lt, rules)

    -- and nothing was visited
    pub still : succs ≡ [] → length list ≡ 0
    still e = elim (cases_eq (length list) 0) [
      | inl q ↦ q
      | inr n ↦
          let w = visits_only (get_or list 0 0) (Contains-get_or list 0 0 (omega arith)) in
          absurd (elim w.0 [
            | inl x ↦ let v = rw e at x.1 in omega (arith, v.1)
            | inr x ↦ let v = rw e at x.0.1 in omega (arith, v.1)
          ])
    ]

    changed : (a : ℕ) → (f a ≡ true) ⊎ (b a ≡ true) → a < length order.ranks → get_or order.ranks a 0 ≢ get_or new a 0
    changed a (inl e) la q = omega (arith, q, l.higher a la e)
    changed a (inr e) la q = omega (arith, q, l.lower a la e)

    -- just the visited nodes have other ranks than before
    pub moved : moved_of order.ranks new ≡ length list
    moved = moved_of-listed order.ranks new list (omega (arith, l.long)) (record {
      each = λ a w. elim (cases_Bool (f a)) [
        | inl fa ↦ visits_each a (inl (h.ahead a fa), w.0)
        | inr na ↦ elim (cases_Bool (b a)) [
          | inl ba ↦ visits_each a (inr (h.behind a ba), w.0)
          | inr nb ↦ absurd (true_differs _ _ w.1 (sym (l.spared a w.0 (neither a nb na))))
        ]
      ];
      only = λ a w. let m = visits_only a w in (m.1, differs_true _ _ (changed a (visits_cases a w) m.1));
      once = visits_once;
    })

-- what a refusal after the first step leaves of the visits
pub refused_round : (old : Ranking) (edges : List (List ℕ)) (ranks visits : List ℕ) (rounds : ℕ)
    (preds succs : List ℕ) (e : Refused) → rounds ≡ (old.rounds + 1) % 2 ^ 64 →
    OnlyAffected old.edges old.ranks preds succs visits →
    IsRefusedRound old (record { edges = edges; ranks = ranks; visits = visits; rounds = rounds }) preds succs e
refused_round old edges ranks visits rounds preds succs (Circle path) n only = (n, only)
refused_round old edges ranks visits rounds preds succs NoMemory n only = inr (n, only)

-- how the order is mended after the searches
pub found_plan : (edges : List (List ℕ)) (order : Ordering) (preds succs : List ℕ) (found : Found)
    (list : List ℕ) → IsOrder edges order.ranks → IsInverse order.nodes order.ranks →
    IsFound edges order preds succs found list → IsPlan found order.nodes order.ranks list
found_plan edges order preds succs found list o inverse h = record {
  few = omega (arith, h.few, inverse.long);
  lowest = λ l.
      let s = first_ahead edges order preds succs found list o inverse h (omega (arith, inverse.long)) in
      (s.0, omega (arith, s.1, inverse.long), s.2, s.3);
  ahead = λ a e. let w = h.within a e in (omega (arith, w.0, inverse.long), w.1);
  behind = λ a e. omega (arith, h.nodes a e, inverse.long);
  apart = apart edges order preds succs found list o inverse h;
  listed = h.visits;
  split = h.split;
  slots = h.slots;
}
