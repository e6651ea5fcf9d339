-- The search forward, by rising rank, finds just what edges reach.
use Rattle.rv_rank.proofs.Common.{◌≡◌, ◌≢◌, ℕ, ◌+◌, ◌<◌, ◌≤◌, ◌⊎◌, false, List, [], length, get_or, inl, inr}
use Rattle.rv_rank.proofs.Common.{sym, ◌∙◌, arith, refl, All, All-contains, Contains, Contains-get_or, get_or_past}
use Rattle.rv_rank.proofs.Common.{cases_eq, cases_lt, false≢true, Edge, Reaches, here, step, IsOrder}
use Rattle.rv_rank.proofs.Common.{Bool, true, has_bit, has_slot, IsJoined, IsSearched}
use Rattle.rv_rank.proofs.Growth.{edge_from}
use Rattle.rv_rank.proofs.Sets.{has_slot-below, has_slot-of}

-- an edge leads to a node
pub edge_below : (edges : List (List ℕ)) (ranks : List ℕ) → IsOrder edges ranks → (a b : ℕ) → Edge edges a b →
    b < length ranks
edge_below edges ranks o a b e = elim (cases_lt b (length ranks)) [
  | inl l ↦ l
  | inr p ↦ absurd (omega (arith, o.forward a b e, get_or_past ranks b 0 p))
]

-- edges lead to nodes
pub targets_below : (edges : List (List ℕ)) (ranks : List ℕ) → IsOrder edges ranks → (a : ℕ) →
    All (λ t. t < length ranks) (get_or edges a [])
targets_below edges ranks o a k d l = edge_below edges ranks o a _ (Contains-get_or (get_or edges a []) k d l)

-- what reaches a node reaches what follows it
pub reaches_append : (edges : List (List ℕ)) (a b c : ℕ) → Reaches edges a b → Edge edges b c → Reaches edges a c
reaches_append edges a b c here e = step e here
reaches_append edges a b c (step {b = x} f p) e = step f (reaches_append edges x b c p e)

-- what is reached is the node itself, or an edge leads to it from what is reached
pub last_edge : (edges : List (List ℕ)) (s a : ℕ) → Reaches edges s a →
    (s ≡ a) ⊎ ((u : ℕ) × Reaches edges s u × Edge edges u a)
last_edge edges s a here = inl refl
last_edge edges s a (step {b = x} e p) = elim (last_edge edges x a p) [
  | inl q ↦ inr (s, here, rw (sym q) e)
  | inr w ↦ inr (w.0, step e w.1, w.2)
]

-- the successors alone were found first
pub IsSearched-start : (edges : List (List ℕ)) (ranks succs : List ℕ) (low : ℕ) (old new : ℕ → Bool) →
    ((a : ℕ) → old a ≡ false) → All (λ s. low ≤ get_or ranks s 0) succs → IsJoined old new succs →
    IsSearched edges ranks succs low new low
IsSearched-start edges ranks succs low old new empty least j =
    let given : (a : ℕ) → new a ≡ true → Contains succs a = λ a m. elim (j.only a m) [
      | inl was ↦ absurd (false≢true (sym (empty a) ∙ was))
      | inr w ↦ w
    ] in
    let high : (a : ℕ) → new a ≡ true → low ≤ get_or ranks a 0 =
    λ a m. All-contains (λ s. low ≤ get_or ranks s 0) succs a least (given a m) in
    record {
      begun = j.found;
      closed = λ a b under m e. absurd (omega (arith, under, high a m));
      found = λ a m. (a, given a m, here);
      high = high;
    }

-- the targets of a node that was found were put in
pub IsSearched-more : (edges : List (List ℕ)) (ranks succs : List ℕ) (low : ℕ) (old new : ℕ → Bool) (r v : ℕ) →
    IsOrder edges ranks → IsSearched edges ranks succs low old r → get_or ranks v 0 ≡ r → v < length ranks →
    old v ≡ true → IsJoined old new (get_or edges v []) → IsSearched edges ranks succs low new (r + 1)
IsSearched-more edges ranks succs low old new r v o h at below m j = record {
  begun = λ a w. j.kept a (h.begun a w);
  closed = λ a b under k e. elim (j.only a k) [
    | inl was ↦ elim (cases_eq a v) [
      | inl same ↦ j.found b (rw same at e)
      | inr other ↦
          let differs : get_or ranks a 0 ≢ r =
          λ q. other (o.once a v (omega (arith, edge_from edges a b e, o.long)) below (q ∙ sym at)) in
          j.kept b (h.closed a b (omega arith) was e)
    ]
    | inr w ↦ absurd (omega (arith, o.forward v a w, at, under))
  ];
  found = λ a k. elim (j.only a k) [
    | inl was ↦ h.found a was
    | inr w ↦ let p = h.found v m in (p.0, p.1, reaches_append edges p.0 v a p.2 w)
  ];
  high = λ a k. elim (j.only a k) [
    | inl was ↦ h.high a was
    | inr w ↦ omega (arith, o.forward v a w, h.high v m)
  ];
}

-- where no slot stands from rank r up to q, what was found below q is below r
ranks_before : (ranks slots : List ℕ) (r q : ℕ) → ((k : ℕ) → r ≤ k → k < q → has_bit slots k ≡ false) → (a : ℕ) →
    has_slot ranks slots a ≡ true → get_or ranks a 0 < q → get_or ranks a 0 < r
ranks_before ranks slots r q none a m under = elim (cases_lt (get_or ranks a 0) r) [
  | inl low ↦ low
  | inr high ↦ absurd (false≢true (sym (has_slot-of ranks slots a (has_slot-below ranks slots a m)
      ∙ none (get_or ranks a 0) high under) ∙ m))
]

-- ranks that are no slots are passed
pub IsSearched-jump : (edges : List (List ℕ)) (ranks succs : List ℕ) (low : ℕ) (slots : List ℕ) (r q : ℕ) →
    ((k : ℕ) → r ≤ k → k < q → has_bit slots k ≡ false) →
    IsSearched edges ranks succs low (has_slot ranks slots) r →
    IsSearched edges ranks succs low (has_slot ranks slots) q
IsSearched-jump edges ranks succs low slots r q none h = record {
  begun = h.begun;
  closed = λ a b under m e. h.closed a b (ranks_before ranks slots r q none a m under) m e;
  found = h.found;
  high = h.high;
}

-- what is reached from a node that was found was found
pub reached_found : (edges : List (List ℕ)) (ranks succs : List ℕ) (low : ℕ) (ahead : ℕ → Bool) →
    IsOrder edges ranks → IsSearched edges ranks succs low ahead (length ranks) → (a b : ℕ) → Reaches edges a b →
    ahead a ≡ true → ahead b ≡ true
reached_found edges ranks succs low ahead o h a b here m = m
reached_found edges ranks succs low ahead o h a b (step {b = x} e p) m =
    let under = o.below a (omega (arith, edge_from edges a x e, o.long)) in
    reached_found edges ranks succs low ahead o h x b p (h.closed a x under m e)
