-- The search backward, by falling rank.
use Rattle.rv_rank.proofs.Common.{◌≡◌, ◌≢◌, ℕ, ◌+◌, ◌<◌, ◌≤◌, false, List, length, get_or, inl, inr, sym, ◌∙◌}
use Rattle.rv_rank.proofs.Common.{arith, ap, Contains, cases_eq, false≢true, Edge, Reaches, here, step, IsOrder}
use Rattle.rv_rank.proofs.Common.{Has, has_bit, AreBelow, IsJoined, IsTraced}
use Rattle.rv_rank.proofs.Searching.{edge_below}

module _ (edges : List (List ℕ)) (ranks preds : List ℕ) (o : IsOrder edges ranks) where
  -- the predecessors were put into an empty set
  pub IsTraced-start : (old new : List ℕ) (end : ℕ) → ((a : ℕ) → has_bit old a ≡ false) →
      IsJoined (has_bit old) (has_bit new) preds → AreBelow ranks new end → IsTraced edges ranks preds new end
  IsTraced-start old new end empty j below = record {
    begun = j.found;
    closed = λ a b from m e. absurd (omega (arith, from, (below b m).1));
    found = λ a m. elim (j.only a m) [
      | inl was ↦ absurd (false≢true (sym (empty a) ∙ was))
      | inr w ↦ (a, w, here)
    ];
  }

  -- the sources of a node that was found were put in
  pub IsTraced-more : (old new : List ℕ) (r v : ℕ) (sources : List ℕ) →
      ((a : ℕ) → Contains sources a → Edge edges a v) → ((a : ℕ) → Edge edges a v → Contains sources a) →
      IsTraced edges ranks preds old (r + 1) → get_or ranks v 0 ≡ r → v < length ranks → Has old v →
      IsJoined (has_bit old) (has_bit new) sources → IsTraced edges ranks preds new r
  IsTraced-more old new r v sources to from t at below m j = record {
    begun = λ a w. j.kept a (t.begun a w);
    closed = λ a b high k e. elim (j.only b k) [
      | inl was ↦ elim (cases_eq b v) [
        | inl same ↦ j.found a (from a (rw same at e))
        | inr other ↦
            let differs : get_or ranks b 0 ≢ r =
            λ q. other (o.once b v (edge_below edges ranks o a b e) below (q ∙ sym at)) in
            j.kept a (t.closed a b (omega arith) was e)
      ]
      | inr w ↦ absurd (omega (arith, o.forward b v (to b w), at, high))
    ];
    found = λ a k. elim (j.only a k) [
      | inl was ↦ t.found a was
      | inr w ↦ let p = t.found v m in (p.0, p.1, step (to a w) p.2)
    ];
  }

  -- a node that was not found is passed
  pub IsTraced-skip : (behind : List ℕ) (r v : ℕ) → IsTraced edges ranks preds behind (r + 1) →
      get_or ranks v 0 ≡ r → v < length ranks → has_bit behind v ≡ false → IsTraced edges ranks preds behind r
  IsTraced-skip behind r v t at below free = record {
    begun = t.begun;
    closed = λ a b high m e. elim (cases_eq b v) [
      | inl same ↦ absurd (false≢true (sym free ∙ ap (has_bit behind) (sym same) ∙ m))
      | inr other ↦
          let differs : get_or ranks b 0 ≢ r =
          λ q. other (o.once b v (edge_below edges ranks o a b e) below (q ∙ sym at)) in
          t.closed a b (omega arith) m e
    ];
    found = t.found;
  }

  -- what reaches a predecessor from rank `low` or above was found
  pub reaching_found : (low : ℕ) (behind : List ℕ) → IsTraced edges ranks preds behind low → (a p : ℕ) →
      Reaches edges a p → Contains preds p → low ≤ get_or ranks a 0 → Has behind a
  reaching_found low behind t a p here w up = t.begun a w
  reaching_found low behind t a p (step {b = x} e q) w up =
      let f = o.forward a x e in
      t.closed a x (omega arith) (reaching_found low behind t x p q w (omega arith)) e
