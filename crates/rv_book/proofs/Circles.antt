-- A path of kept edges from a successor to a predecessor closes a circle over the new event.
use Rattle.rv_book.proofs.Common.{◌≡◌, ◌≢◌, ℕ, zero, suc, ◌+◌, ◌-◌, ◌<◌, List, [], ◌∷◌, map, length, get_or, All}
use Rattle.rv_book.proofs.Common.{AllPairs, ◌⊎◌, inl, inr, sym, ap, ◌∙◌, arith, subst, cases_eq, length-map}
use Rattle.rv_book.proofs.Common.{get_or-map, get_or_default, IsEdge, MemoryModel, Id, Event, Reason, Kept, grown}
use Rattle.rv_book.proofs.Common.{Edge, IsCircle, IsFit, Arranged, nobody, at, IsArranged, EachLeads, AreNodes}
use Rattle.rv_book.proofs.CallValues.{ShowsCircle}
use Rattle.rv_book.proofs.IdWalks.{end_at, end-within, end-past}
use Rattle.rv_book.proofs.GrownHistories.{grow, old_is_not_new, pred_edge, succ_edge}

module _ (v : Arranged) (ok : IsArranged v) (k : Kept) (fit : IsFit v k) (preds succs : List ℕ)
    (ins : AreNodes v.ids k.before preds) (outs : AreNodes v.ids k.after succs) (path : List ℕ)
    (c : IsCircle v.edges preds succs path) where
  low : (j : ℕ) → j < length path → get_or path j 0 < length v.ids
  low zero l = outs.low (get_or path 0 0) c.begins
  low (suc j) l =
      let s : j + 1 ≡ suc j = omega arith in
      let e : Edge v.edges (get_or path j 0) (get_or path (j + 1) 0) = c.steps j (omega arith) in
      subst (λ x. get_or path x 0 < length v.ids) s (ok.inside (get_or path j 0) (get_or path (j + 1) 0) e).1

  -- each node of the path is one of the order
  pub path_low : All (λ a. a < length v.ids) path
  path_low j d l = subst (λ x. x < length v.ids) (get_or_default path j 0 d l) (low j l)

  abbrev walk : List Id
  walk = k.event.id ∷ map (at v.ids) path

  long : length walk ≡ length path + 1
  long = omega (arith, length-map path (at v.ids))

  at-walk : (m : ℕ) → m < length path → at walk (m + 1) ≡ at v.ids (get_or path m 0)
  at-walk m l =
      let s : m + 1 ≡ suc m = omega arith in
      ap (at walk) s ∙ get_or-map (at v.ids) path m 0 nobody l

  -- each id leads to the next, and the last to the first
  pub leads : EachLeads v.model (grown v.history k.event) walk
  leads j l = go (cases_eq j 0) (cases_eq j (length path))
    where
      first : (j ≡ 0) → (r : Reason) × IsEdge v.model (grown v.history k.event) (at walk j) r (end_at walk (j + 1))
      first e =
          let w = succ_edge v ok k fit preds succs ins outs (get_or path 0 0) c.begins in
          let n = end-within walk 1 (omega (arith, long, c.some)) ∙ at-walk 0 c.some in (
            w.0,
            subst (λ x. IsEdge v.model (grown v.history k.event) (at walk x) w.0 (end_at walk (x + 1))) (sym e)
                (subst (λ (i : Id). IsEdge v.model (grown v.history k.event) k.event.id w.0 i) (sym n) w.1),
          )

      here : (j ≢ 0) → at walk j ≡ at v.ids (get_or path (j - 1) 0)
      here n = let s : j ≡ j - 1 + 1 = omega arith in ap (at walk) s ∙ at-walk (j - 1) (omega (arith, l, long))

      last : (j ≢ 0) → (j ≡ length path) → (r : Reason) × IsEdge v.model (grown v.history k.event) (at walk j) r
          (end_at walk (j + 1))
      last n e =
          let w = pred_edge v ok k fit preds succs ins outs
          (get_or path (length path - 1) 0) c.ends in
          let q = end-past walk (j + 1) (omega (arith, long, e)) in
          let h = here n ∙ ap (λ x. at v.ids (get_or path (x - 1) 0)) e in (
            w.0,
            subst (λ (i : Id). IsEdge v.model (grown v.history k.event) (at walk j) w.0 i) (sym q)
                (subst (λ (i : Id). IsEdge v.model (grown v.history k.event) i w.0 k.event.id) (sym h) w.1),
          )

      inner : (j ≢ 0) → (j ≢ length path) → (r : Reason) × IsEdge v.model (grown v.history k.event) (at walk j) r
          (end_at walk (j + 1))
      inner n m =
          let less : j < length path = omega (arith, l, long, m) in
          let s : j - 1 + 1 ≡ j = omega arith in
          let e : Edge v.edges (get_or path (j - 1) 0) (get_or path j 0) =
          subst (λ x. Edge v.edges (get_or path (j - 1) 0) (get_or path x 0)) s
          (c.steps (j - 1) (omega (arith, less))) in
          let w = ok.true_edges (get_or path (j - 1) 0) (get_or path j 0) e in
          let g = grow v ok k fit (at v.ids (get_or path (j - 1) 0))
          (at v.ids (get_or path j 0)) w.0 w.1 in
          let q = end-within walk (j + 1) (omega (arith, long, less)) ∙ at-walk j less in
          let h = here n in (
            w.0,
            subst (λ (i : Id). IsEdge v.model (grown v.history k.event) (at walk j) w.0 i) (sym q)
                (subst (λ (i : Id). IsEdge v.model (grown v.history k.event) i w.0 (at v.ids (get_or path j 0)))
                (sym h) g),
          )

      go : (j ≡ 0) ⊎ (j ≢ 0) → (j ≡ length path) ⊎ (j ≢ length path) → (r : Reason) ×
          IsEdge v.model (grown v.history k.event) (at walk j) r (end_at walk (j + 1))
      go (inl e) _ = first e
      go (inr n) (inl e) = last n e
      go (inr n) (inr m) = inner n m

  -- no id is named twice
  pub once : AllPairs (λ i j. i ≢ j) walk
  once a b d l m q = go (cases_eq a 0)
    where
      at-a : get_or walk a d ≡ at walk a
      at-a = get_or_default walk a d nobody (omega (arith, l, m))

      at-b : get_or walk b d ≡ at walk b
      at-b = get_or_default walk b d nobody m

      node : (x : ℕ) → x ≢ 0 → x < length walk → at walk x ≡ at v.ids (get_or path (x - 1) 0)
      node x n w = let s : x ≡ x - 1 + 1 = omega arith in ap (at walk) s ∙ at-walk (x - 1) (omega (arith, w, long))

      b-some : b ≢ 0
      b-some e = omega (arith, l, e)

      go : (a ≡ 0) ⊎ (a ≢ 0) → ⊥
      go (inl e) =
          let p : k.event.id ≡ at v.ids (get_or path (b - 1) 0) = sym (at-a ∙ ap (at walk) e) ∙ q ∙ at-b ∙
          node b b-some m in
          old_is_not_new v ok k fit (at v.ids (get_or path (b - 1) 0))
          (ok.only (get_or path (b - 1) 0) (low (b - 1) (omega (arith, m, long, l)))) (sym p)
      go (inr n) =
          let p : at v.ids (get_or path (a - 1) 0) ≡ at v.ids (get_or path (b - 1) 0) =
          sym (at-a ∙ node a n (omega (arith, l, m))) ∙ q ∙ at-b ∙ node b b-some m in
          let s = ok.once (get_or path (a - 1) 0) (get_or path (b - 1) 0) (low (a - 1) (omega (arith, m, long, l)))
          (low (b - 1) (omega (arith, m, long, l))) p in
          c.once (a - 1) (b - 1) (omega (arith, l, n)) (omega (arith, m, long, l)) s

-- so the path shows the circle
pub circle_shown : (v : Arranged) → IsArranged v → (k : Kept) → IsFit v k → (preds succs : List ℕ) →
    AreNodes v.ids k.before preds → AreNodes v.ids k.after succs → (path : List ℕ) →
    IsCircle v.edges preds succs path → ShowsCircle v.model v.history v.ids path k.event
circle_shown v ok k fit preds succs ins outs path c = record {
  low = path_low v ok k fit preds succs ins outs path c;
  leads = leads v ok k fit preds succs ins outs path c;
  once = once v ok k fit preds succs ins outs path c;
}

-- an event with an edge to itself leads to itself
pub own_leads :
    (model : MemoryModel) (log : List Event) (i : Id) → ((r : Reason) × IsEdge model log i r i) →
    EachLeads model log (i ∷ [])
own_leads model log i own zero few = own
own_leads model log i own (suc k) few = absurd (omega (arith, few))
