-- The order is lawful: each kept edge goes forward, so each path of kept links does, and so each
-- edge.
use Rattle.rv_book.proofs.Common.{common_steps, rules, ◌≡◌, ◌≢◌, ℕ, ◌<◌, List, length, get_or, ◌⊎◌, inl, inr, sym}
use Rattle.rv_book.proofs.Common.{ap, ◌∙◌, arith, subst, get_or_default, place, IsOperation, IsOrderOf, Lawful}
use Rattle.rv_book.proofs.Common.{IsEdge, MemoryModel, Id, Event, Reason, lawful_from_edges, happened, IsKept}
use Rattle.rv_book.proofs.Common.{IsTied, Path, more, carried_from_IsHistory, indexed_from_IsHistory, Arranged}
use Rattle.rv_book.proofs.Common.{nobody, at, order_of, IsArranged}
use Rattle.rv_cover.specs.Paths.{one}
use Rattle.rv_book.proofs.RankOrders.{order, length-order, at-rank, order-once, place-node}

-- two ids are one, or not
pub id_cases : (i j : Id) → (i ≡ j) ⊎ (i ≢ j)
id_cases i j = grind (arith, common_steps)

-- an edge begins at a memory operation
pub from_operation : (model : MemoryModel) (log : List Event) (i j : Id) (r : Reason) → IsEdge model log i r j →
    IsOperation log i
from_operation model log i j r e = record { event = e.a; is_named = e.from_named; is_memory = e.from_memory }

-- and ends at one
pub to_operation : (model : MemoryModel) (log : List Event) (i j : Id) (r : Reason) → IsEdge model log i r j →
    IsOperation log j
to_operation model log i j r e = record { event = e.b; is_named = e.to_named; is_memory = e.to_memory }

module _ (v : Arranged) (ok : IsArranged v) where
  -- each operation has a node
  pub node_of : (i : Id) → IsOperation (happened v.history) i → (a : ℕ) × (a < length v.ids) × (at v.ids a ≡ i)
  node_of i op = let c = ok.each i op in (c.0, c.1, get_or_default v.ids c.0 nobody i c.1 ∙ c.2)

  kept-forward : (i j : Id) (r : Reason) → IsKept v.history i r j → place (order v ok) i < place (order v ok) j
  kept-forward i j r k =
      let e = (carried_from_IsHistory v.model v.history ok.history).true_edges i j r k in
      let a = node_of i (from_operation v.model (happened v.history) i j r e) in
      let b = node_of j (to_operation v.model (happened v.history) i j r e) in
      let k' : IsKept v.history (at v.ids a.0) r (at v.ids b.0) = grind (arith, common_steps) in
      let f = ok.ordered.forward a.0 b.0 (ok.tied a.0 b.0 r a.1 b.1 k') in
      let p = subst (λ (x : Id). place (order v ok) x ≡ get_or v.ranks a.0 0) a.2
      (place-node v ok a.0 (omega (arith, a.1, ok.long))) in
      let q = subst (λ (x : Id). place (order v ok) x ≡ get_or v.ranks b.0 0) b.2
      (place-node v ok b.0 (omega (arith, b.1, ok.long))) in
      omega (arith, f, p, q)

  path-forward : (i j : Id) → Path Id (IsTied v.history) i j → place (order v ok) i < place (order v ok) j
  path-forward i j (one e) = kept-forward i j e.0 e.1
  path-forward i j (more {j = m} e rest) =
      let f = kept-forward i m e.0 e.1 in
      let g = path-forward m j rest in
      omega (arith, f, g)

  -- each edge goes forward
  pub edge-forward : (i j : Id) (r : Reason) → IsEdge v.model (happened v.history) i r j →
      place (order v ok) i < place (order v ok) j
  edge-forward i j r e = elim (id_cases i j) [
    | inl same ↦ absurd (ok.none_itself i r
        (subst (λ (x : Id). IsEdge v.model (happened v.history) i r x) (sym same) e))
    | inr other ↦ path-forward i j ((carried_from_IsHistory v.model v.history ok.history).covered i j r other e)
  ]

  -- the order has each memory operation once, and nothing else
  pub order-of : IsOrderOf (happened v.history) (order v ok)
  order-of = record {
    each = λ i op.
        let a = node_of i op in
        let l : a.0 < length v.ranks = omega (arith, a.1, ok.long) in
        (get_or v.ranks a.0 0, omega (arith, length-order v ok, ok.ordered.below a.0 l), at-rank v ok a.0 i l ∙ a.2);
    nothing_else = λ i c.
        let a = ok.ordered.every c.0 (omega (arith, length-order v ok, c.1)) in
        let s = at-rank v ok a.0 i a.1 in
        let e : at v.ids a.0 ≡ i = sym s ∙ ap (λ k. get_or (order v ok) k i) a.2 ∙ c.2 in
        subst (λ (x : Id). IsOperation (happened v.history) x) e (ok.only a.0 (omega (arith, a.1, ok.long)));
    once = order-once v ok;
  }

  -- so the order is lawful
  pub lawful : Lawful v.model (happened v.history) (order_of v.ranks v.ids)
  lawful = search (lawful_from_edges, indexed_from_IsHistory, edge-forward, order-of, rules)
