-- A way back from a node that was found.
use Rattle.rv_rank.proofs.Common.{◌≡◌, ℕ, suc, zero, ◌+◌, ◌-◌, ◌<◌, List, [], ◌∷◌, ◌++◌, length, get_or, reverse}
use Rattle.rv_rank.proofs.Common.{inl, inr, sym, ◌∙◌, arith, ap, Contains, get_or-reverse, length-reverse}
use Rattle.rv_rank.proofs.Common.{get_or_push, get_or_append_left, length_push, cases_lt, common_steps, Edge}
use Rattle.rv_rank.proofs.Common.{IsOrder, IsTrail, IsSearched, Bool, true, All, All-contains, false≢true, false}
use Rattle.rv_rank.proofs.Common.{IsAhead, OnlyAhead, Contains-push_cases}
use Rattle.rv_rank.proofs.Common.{IsLowest, has_slot, take, ◌≤◌}
use Rattle.rv_rank.proofs.Lists.{Contains-take_more}
use Rattle.rv_rank.proofs.Searching.{last_edge, reached_found}

-- the way back from a node as far as another
pub record IsWayBack (edges : List (List ℕ)) (ahead : ℕ → Bool) (end node : ℕ) (back : List ℕ) : Type 0 where
  pub some : 0 < length back
  pub first : get_or back 0 0 ≡ end
  pub last : get_or back (length back - 1) 0 ≡ node
  pub found : ahead node ≡ true
  pub steps : (k : ℕ) → k + 1 < length back → Edge edges (get_or back (k + 1) 0) (get_or back k 0)

-- one step further back
pub IsWayBack-more : (edges : List (List ℕ)) (ahead : ℕ → Bool) (end node from : ℕ) (back : List ℕ) →
    IsWayBack edges ahead end node back → Edge edges from node → ahead from ≡ true →
    IsWayBack edges ahead end from (back ++ from ∷ [])
IsWayBack-more edges ahead end node from back h e m =
    let long = length_push back from in
    let before : (k : ℕ) → k < length back → get_or (back ++ from ∷ []) k 0 ≡ get_or back k 0 =
    λ k l. get_or_append_left back (from ∷ []) 0 k l in
    let new : (k : ℕ) → k ≡ length back → get_or (back ++ from ∷ []) k 0 ≡ from =
    λ k q. get_or_push back from 0 k (sym q) in
    record {
      some = omega (arith, long);
      first = before 0 h.some ∙ h.first;
      last = new _ (omega (arith, long));
      found = m;
      steps = λ k l. elim (cases_lt (k + 1) (length back)) [
        | inl in_old ↦ let b = before (k + 1) in_old in let a = before k (omega arith) in rw (a, b) (h.steps k in_old)
        | inr at_end ↦
            let k_last : k ≡ length back - 1 = omega (arith, long, h.some) in
            let a : get_or (back ++ from ∷ []) k 0 ≡ node = grind (arith, common_steps) in
            let b : get_or (back ++ from ∷ []) (k + 1) 0 ≡ from = new (k + 1) (omega (arith, long, h.some)) in
            rw (a, b) e
      ];
    }

-- what rises at each step rises
pub rising : (f : ℕ → ℕ) (n : ℕ) → ((k : ℕ) → k + 1 < n → f k < f (k + 1)) → (i d : ℕ) → i + d + 1 < n →
    f i < f (i + d + 1)
rising f n h i zero l = let e : i + zero ≡ i = omega arith in rw e (h i (omega arith))
rising f n h i (suc d) l =
    let e : i + suc d ≡ i + d + 1 = omega arith in
    rw e (let below = rising f n h i d (omega arith) in let last = h (i + d + 1) (omega arith) in omega arith)

-- turned round it is a trail
pub IsTrail-reverse : (edges : List (List ℕ)) (ranks succs : List ℕ) (ahead : ℕ → Bool) (end node : ℕ) (back : List ℕ) →
    IsOrder edges ranks → IsWayBack edges ahead end node back → Contains succs node →
    IsTrail edges succs end (reverse back)
IsTrail-reverse edges ranks succs ahead end node back o h w =
    let n = length back in
    let long = length-reverse back in
    let at : (k : ℕ) → k < n → get_or (reverse back) k 0 ≡ get_or back (n - 1 - k) 0 =
    λ k l. get_or-reverse back k 0 l in
    let steps : (k : ℕ) → k + 1 < n → Edge edges (get_or (reverse back) k 0) (get_or (reverse back) (k + 1) 0) =
    λ k l.
    let a = at k (omega arith) in
    let b = at (k + 1) l in
    let q : n - 1 - k ≡ (n - 1 - (k + 1)) + 1 = omega arith in
    rw (a, b, q) (h.steps (n - 1 - (k + 1)) (omega arith)) in
    let rises : (k : ℕ) → k + 1 < n →
    get_or ranks (get_or (reverse back) k 0) 0 < get_or ranks (get_or (reverse back) (k + 1) 0) 0 =
    λ k l. o.forward _ _ (steps k l) in
    record {
      some = omega (arith, long, h.some);
      begins = let q = at 0 h.some in let z : n - 1 - 0 ≡ n - 1 = omega arith in rw (q, z, h.last) w;
      ends = grind (arith, common_steps);
      steps = λ k l. steps k (omega (arith, long));
      once = λ i j l b same.
          let d = j - i - 1 in
          let r = rising (λ k. get_or ranks (get_or (reverse back) k 0) 0) n rises i d (omega (arith, long)) in
          let q : i + d + 1 ≡ j = omega arith in
          omega (arith, rw q at r, ap (λ x. get_or ranks x 0) same);
    }

-- a node that was found, and is no successor, has a source that was found
pub found_source : (edges : List (List ℕ)) (ranks succs : List ℕ) (low : ℕ) (ahead : ℕ → Bool) (node : ℕ) →
    IsOrder edges ranks → IsSearched edges ranks succs low ahead (length ranks) → ahead node ≡ true →
    (Contains succs node → ⊥) → (u : ℕ) × Edge edges u node × (ahead u ≡ true)
found_source edges ranks succs low ahead node o h m n =
    let w = h.found node m in
    elim (last_edge edges w.0 node w.2) [
      | inl same ↦ absurd (n (rw same at w.1))
      | inr p ↦ (p.0, p.2, reached_found edges ranks succs low ahead o h w.0 p.0 p.1 (h.begun w.0 w.1))
    ]

-- so its sources are not all missing
pub some_source : (edges : List (List ℕ)) (ranks succs : List ℕ) (low : ℕ) (ahead : ℕ → Bool) (sources : List ℕ)
    (node : ℕ) →
    IsOrder edges ranks → IsSearched edges ranks succs low ahead (length ranks) → ahead node ≡ true →
    (Contains succs node → ⊥) → ((a : ℕ) → Edge edges a node → Contains sources a) →
    All (λ a. ahead a ≡ false) sources → ⊥
some_source edges ranks succs low ahead sources node o h m n from none =
    let p = found_source edges ranks succs low ahead node o h m n in
    false≢true (sym (All-contains (λ a. ahead a ≡ false) sources p.0 none (from p.0 p.1)) ∙ p.2)

-- one more node that was found forward
pub only_more : (edges : List (List ℕ)) (ranks succs list : List ℕ) (a : ℕ) → OnlyAhead edges ranks succs list →
    IsAhead edges succs a → a < length ranks → OnlyAhead edges ranks succs (list ++ a ∷ [])
only_more edges ranks succs list a h w l b m = elim (Contains-push_cases list a b m) [
  | inl was ↦ h b was
  | inr same ↦ rw (sym same) (w, l)
]

-- of one node more, the lowest is one of a rank that is no higher than both
pub IsLowest-more : (ranks slots nodes : List ℕ) (i lowest next : ℕ) → IsLowest ranks slots (take i nodes) lowest →
    i < length nodes → get_or ranks next 0 ≤ get_or ranks lowest 0 →
    (has_slot ranks slots (get_or nodes i 0) ≡ true → get_or ranks next 0 ≤ get_or ranks (get_or nodes i 0) 0) →
    IsLowest ranks slots (take (i + 1) nodes) next
IsLowest-more ranks slots nodes i lowest next h l down here b w is = elim (Contains-take_more nodes i b l w) [
  | inl v ↦ omega (arith, down, h b v is)
  | inr q ↦ let told = rw q at here in told is
]
