-- Nodes found one after another.
use Rattle.rv_book.proofs.Common.{◌≡◌, ℕ, ◌<◌, List, [], ◌∷◌, ◌++◌, length, inl, inr, sym, ap, ◌∙◌, subst}
use Rattle.rv_book.proofs.Common.{Contains-push_cases, Id, Link, Contains-old, Contains-last, at, AreNodes}

-- one link more has one node more
pub nodes_more : (ids : List Id) (links : List Link) (nodes new : List ℕ) (l : Link) (p : ℕ) →
    AreNodes ids links nodes → p < length ids → at ids p ≡ l.id → new ≡ nodes ++ p ∷ [] →
    AreNodes ids (links ++ l ∷ []) new
nodes_more ids links nodes new l p h low is e = subst (AreNodes ids (links ++ l ∷ [])) (sym e) (record {
  low = λ q c. elim (Contains-push_cases nodes p q c)
      [ inl old ↦ h.low q old | inr s ↦ subst (λ x. x < length ids) s low ];
  linked = λ q c. elim (Contains-push_cases nodes p q c) [
    | inl old ↦ let w = h.linked q old in (w.0, Contains-old links l w.0 w.1, w.2)
    | inr s ↦ (l, Contains-last links l, subst (λ x. at ids x ≡ l.id) s is)
  ];
  each = λ m c. elim (Contains-push_cases links l m c) [
    | inl old ↦ let w = h.each m old in (w.0, Contains-old nodes p w.0 w.1, w.2)
    | inr s ↦ (p, Contains-last nodes p, is ∙ ap (λ (x : Link). x.id) s)
  ];
})
