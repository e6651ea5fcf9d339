-- Two tables, the one with the other's edges backward.
use Rattle.rv_rank.proofs.Common.{◌≡◌, ℕ, ◌<◌, List, [], length, get_or, inl, inr, arith, All, get_or_default}
use Rattle.rv_rank.proofs.Common.{Contains-get_or, common_steps, Edge, IsGrown, IsMirror}
use Rattle.rv_rank.proofs.Growth.{edge_from}

-- rows name nodes alone
pub rows_within : (outgoing incoming : List (List ℕ)) → IsMirror outgoing incoming →
    All (λ row. All (λ a. a < length outgoing) row) outgoing
rows_within outgoing incoming h k d l j e m =
    let q = get_or_default outgoing k d [] l in
    let n = rw q at m in
    let w : Edge outgoing k (get_or (get_or outgoing k d) j e) =
    rw q (Contains-get_or (get_or outgoing k []) j e n) in
    omega (
      arith,
      edge_from incoming (get_or (get_or outgoing k d) j e) k
          (h.back k (get_or (get_or outgoing k d) j e) w),
      h.long,
    )

-- a mirror of the mirror
pub mirror_flip : (outgoing incoming : List (List ℕ)) → IsMirror outgoing incoming → IsMirror incoming outgoing
mirror_flip outgoing incoming h = grind (arith, common_steps)

-- a new node leaves the rows mirrored
pub mirror_grown : (outgoing incoming out in_ : List (List ℕ)) (preds succs : List ℕ) →
    IsMirror outgoing incoming → IsGrown outgoing out preds succs → IsGrown incoming in_ succs preds →
    IsMirror out in_
mirror_grown outgoing incoming out in_ preds succs h g i = record {
  long = omega (arith, g.long, i.long, h.long);
  back = λ a b e. elim (g.only a b e) [
    | inl old ↦ i.kept b a (h.back a b old)
    | inr fresh ↦ elim fresh [
      | inl w ↦ let q : b ≡ length incoming = omega (arith, w.0, h.long) in rw q (i.after a w.1)
      | inr w ↦ let q : a ≡ length incoming = omega (arith, w.0, h.long) in rw q (i.before b w.1)
    ]
  ];
  forth = λ a b e. elim (i.only b a e) [
    | inl old ↦ g.kept a b (h.forth a b old)
    | inr fresh ↦ elim fresh [
      | inl w ↦ let q : a ≡ length outgoing = omega (arith, w.0, h.long) in rw q (g.after b w.1)
      | inr w ↦ let q : b ≡ length outgoing = omega (arith, w.0, h.long) in rw q (g.before a w.1)
    ]
  ];
}
