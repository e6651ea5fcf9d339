-- One node more.
use Rattle.rv_rank.proofs.Common.{◌≡◌, ℕ, ◌<◌, List, [], ◌∷◌, ◌++◌, length, get_or, inl, inr, sym, arith, All}
use Rattle.rv_rank.proofs.Common.{length_push, get_or_push, get_or_append_left, Contains-push_cases}
use Rattle.rv_rank.proofs.Common.{Contains-append_left, Contains-push, All-contains, cases_lt, common_steps, Edge}
use Rattle.rv_rank.proofs.Common.{IsGrown, IsAppended}
use Rattle.rv_rank.proofs.Lists.{contains_cases}

-- an edge leads from a node
pub edge_from : (edges : List (List ℕ)) (a b : ℕ) → Edge edges a b → a < length edges
edge_from edges a b e = grind (arith, common_steps)

-- rows that were appended are the edges of a new node
pub grown : (old mid : List (List ℕ)) (preds succs : List ℕ) → All (λ p. p < length old) preds →
    IsAppended old mid preds (length old) → IsGrown old (mid ++ succs ∷ []) preds succs
grown old mid preds succs placed h =
    let n = length old in
    let new = mid ++ succs ∷ [] in
    let long = length_push mid succs in
    let before : (a : ℕ) → a < n → get_or new a [] ≡ get_or mid a [] =
    λ a l. get_or_append_left mid (succs ∷ []) [] a (omega (arith, h.long)) in
    let last : get_or new n [] ≡ succs = get_or_push mid succs [] n h.long in
    record {
      long = omega (arith, long, h.long);
      kept = λ a b e.
          let l = edge_from old a b e in
          let q = before a l in
          elim (contains_cases preds a) [
            | inl w ↦ rw (q, h.here a l w) (Contains-append_left (get_or old a []) (n ∷ []) b e)
            | inr m ↦ rw (q, h.other a m) e
          ];
      before = λ a w.
          let l : a < n = All-contains (λ p. p < length old) preds a placed w in
          rw (before a l, h.here a l w) (Contains-push (get_or old a []) n);
      after = λ b w. rw last w;
      only = λ a b e. elim (cases_lt a n) [
        | inl l ↦ let q = before a l in elim (contains_cases preds a) [
          | inl w ↦
              let f = rw (q, h.here a l w) at e in
              elim (Contains-push_cases (get_or old a []) n b f) [ inl g ↦ inl g | inr g ↦ inr (inl (sym g, w)) ]
          | inr m ↦ inl (rw (q, h.other a m) at e)
        ]
        | inr at_end ↦
            let below = edge_from new a b e in
            let same : a ≡ n = omega (arith, long, h.long) in
            inr (inr (same, rw (same, last) at e))
      ];
    }
