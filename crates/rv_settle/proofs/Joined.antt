-- An order of the past of a cut, and then one of the rest.
use Rattle.std.proofs.Common.{◌++◌, ◌∷◌, ◌≡◌, ◌⊎◌, ◌+◌, ◌<◌, [], Bool, Contains, IsFalse, IsTrue}
use Rattle.std.proofs.Common.{List, Some, ap, arith, cond, false}
use Rattle.std.proofs.Common.{inl, inr, length, refl, subst, suc, sym, true, ◌∙◌, ℕ}
use Rattle.std.proofs.lemmas.Bool.{false≢true}
use Rattle.std.proofs.lemmas.Grind.{common_steps}
use Rattle.std.proofs.lemmas.List.Elements.{Contains-append_cases}
use Rattle.rv_event.proofs.Indexed.{IndexedWithin}
use Rattle.rv_event.proofs.Names.{Contains-cons, Contains-here, Contains-there, named-is}
use Rattle.rv_event.proofs.Names.{same_id-refl, same_id-true}
use Rattle.rv_event.specs.Edges.{IsEdge}
use Rattle.rv_event.specs.Log.{named, same_id}
use Rattle.rv_event.specs.Orders.{place}
use Rattle.rv_event.specs.declared.event.Event.{Event}
use Rattle.rv_event.specs.declared.event.Id.{Id}
use Rattle.rv_event.specs.declared.memory_model.MemoryModel.{MemoryModel}
use Rattle.rv_event.specs.declared.reason.Reason.{Reason}
use Rattle.rv_settle.specs.Cuts.{GoesForward, IsCut, IsParted}

-- an id of the first list has its place there, before all of the second
pub place-first : (xs ys : List Id) (i : Id) → Contains xs i →
    (place (xs ++ ys) i ≡ place xs i) × (place xs i < length xs)
place-first [] ys i (k, low, is) = absurd (omega (arith, low))
place-first (x ∷ xs) ys i c = go (same_id i x) refl (Contains-cons x xs i c) (λ d. place-first xs ys i d)
  where
    go : (b : Bool) → same_id i x ≡ b → (x ≡ i) ⊎ Contains xs i →
        (Contains xs i → (place (xs ++ ys) i ≡ place xs i) × (place xs i < length xs)) →
        (cond b 0 (suc (place (xs ++ ys) i)) ≡ cond b 0 (suc (place xs i))) ×
        (cond b 0 (suc (place xs i)) < suc (length xs))
    go true e at again = (refl, omega arith)
    go false e (inl same) again = absurd (false≢true (sym e ∙ ap (λ (y : Id). same_id i y) same ∙ same_id-refl i))
    go false e (inr there) again = let found = again there in (ap suc found.0, omega (arith, found.1))

-- an id that is in the second list alone has its place behind the first
pub place-rest : (xs ys : List Id) (i : Id) → (Contains xs i → ⊥) → place (xs ++ ys) i ≡ length xs + place ys i
place-rest [] ys i none = omega arith
place-rest (x ∷ xs) ys i none =
    go (same_id i x) refl (place-rest xs ys i (λ c. none (Contains-there x xs i c)))
  where
    go : (b : Bool) → same_id i x ≡ b → place (xs ++ ys) i ≡ length xs + place ys i →
        cond b 0 (suc (place (xs ++ ys) i)) ≡ suc (length xs) + place ys i
    go true e again = absurd (none (Contains-here x xs i (sym (same_id-true i x e))))
    go false e again = omega (arith, again)

-- no test both passes and fails
pub not-both : (b : Bool) → IsTrue b → IsFalse b → ⊥
not-both b passes fails = grind (arith, common_steps)

module _ {limit : ℕ} (model : MemoryModel) (log : List Event) (active : List ℕ) (past : Event → Bool)
    (first rest : List Id) (known : IndexedWithin limit log) (cut : IsCut model log active past)
    (parts : IsParted log past first rest)
    (first_forward : GoesForward model log first) (rest_forward : GoesForward model log rest) where
  -- an operation that is kept is not of the first list
  apart : (i : Id) (a : Event) → named log i ≡ Some a → Contains rest i → Contains first i → ⊥
  apart i a is kept gone =
      not-both (past a) (parts.gone i a gone is) (parts.kept i a kept is)

  -- no edge leads from what is kept into the past
  no_edge : (i j : Id) (reason : Reason) → Contains rest i → Contains first j → IsEdge model log i reason j → ⊥
  no_edge i j reason kept gone edge =
      let from = named-is log i edge.a edge.from_named in
      let to = named-is log j edge.b edge.to_named in
      let own : IsEdge model log edge.a.id reason edge.b.id =
      subst (λ (k : Id). IsEdge model log edge.a.id reason k) to.1
      (subst (λ (k : Id). IsEdge model log k reason j) from.1 edge) in
      let too : IsTrue (past edge.a) =
      cut.closed edge.a edge.b from.0 (parts.gone j edge.b gone edge.to_named) (reason, own) in
      not-both (past edge.a) too (parts.kept i edge.a kept edge.from_named)

  -- each edge goes forward in both lists together
  pub joined-forward : (i j : Id) (reason : Reason) → IsEdge model log i reason j →
      place (first ++ rest) i < place (first ++ rest) j
  joined-forward i j reason edge =
      go (Contains-append_cases first rest i in_i) (Contains-append_cases first rest j in_j)
    where
      in_i : Contains (first ++ rest) i
      in_i = parts.is_order.each i (record { event = edge.a; is_named = edge.from_named; is_memory = edge.from_memory })

      in_j : Contains (first ++ rest) j
      in_j = parts.is_order.each j (record { event = edge.b; is_named = edge.to_named; is_memory = edge.to_memory })

      go : Contains first i ⊎ Contains rest i → Contains first j ⊎ Contains rest j →
          place (first ++ rest) i < place (first ++ rest) j
      go (inl ci) (inl cj) =
          let at_i = place-first first rest i ci in
          let at_j = place-first first rest j cj in
          let before = first_forward i j reason ci cj edge in
          omega (arith, at_i.0, at_j.0, before)
      go (inl ci) (inr cj) =
          let at_i = place-first first rest i ci in
          let at_j = place-rest first rest j (apart j edge.b edge.to_named cj) in
          omega (arith, at_i.0, at_i.1, at_j)
      go (inr ci) (inl cj) = absurd (no_edge i j reason ci cj edge)
      go (inr ci) (inr cj) =
          let at_i = place-rest first rest i (apart i edge.a edge.from_named ci) in
          let at_j = place-rest first rest j (apart j edge.b edge.to_named cj) in
          let before = rest_forward i j reason ci cj edge in
          omega (arith, at_i, at_j, before)
