-- The two records of each store agree, as there come more.
use Rattle.std.proofs.Common.{ℕ, ◌≡◌, ◌∙◌, ◌<◌, ◌++◌, ◌∷◌, [], List, Contains, inl, inr}
use Rattle.std.proofs.Common.{arith, get_or, subst, sym, ap}
use Rattle.std.proofs.lemmas.Bool.{cases_eq, cases_lt}
use Rattle.std.proofs.lemmas.List.{get_or_default}
use Rattle.std.proofs.lemmas.List.Elements.{Contains-get_or, Contains-push_cases}
use Rattle.std.proofs.lemmas.List.Quantifiers.{all_pairs_push}
use Rattle.std.specs.List.{AllPairs}
use Rattle.rv_log.specs.declared.record.Performed.{Performed}
use Rattle.rv_memory.specs.Stores.{AreStores, HasIssuer, IsOrder}
use Rattle.rv_values.specs.Issues.{AreSingle, IsNew, IsOf}
use Rattle.rv_values.specs.Memory.{Agree, IsMemory}
use Rattle.rv_values.specs.declared.issues.Issued.{Issued}
use Rattle.rv_values.specs.declared.memory.Memory.{Memory}

-- two elements that are the same by a relation in which no two stand are one
module _ {X : Type 0} (Same : X → X → Type 0) (xs : List X) (apart : AllPairs (λ x y. Same x y → ⊥) xs) where
  -- one doesn't stand before the other
  pub before : (x y : X) (cx : Contains xs x) (cy : Contains xs y) → cx.0 < cy.0 → Same x y → ⊥
  before x y cx cy low same = apart cx.0 cy.0 x low cy.1
      (subst (λ (z : X). Same z (get_or xs cy.0 x)) (sym cx.2)
      (subst (Same x) (sym (get_or_default xs cy.0 x y cy.1 ∙ cy.2)) same))

  pub only : (x y : X) → Contains xs x → Contains xs y → Same x y → Same y x → x ≡ y
  only x y cx cy same back = elim (cases_lt cx.0 cy.0) [
    | inl low ↦ absurd (before x y cx cy low same)
    | inr upto ↦ elim (cases_eq cx.0 cy.0) [
      | inl at ↦ sym cx.2 ∙ ap (λ (k : ℕ). get_or xs k x) at ∙ get_or_default xs cy.0 x y cy.1 ∙ cy.2
      | inr other ↦ absurd (before y x cy cx (omega (upto, other, arith)) back)
    ]
  ]

-- a store's effect is one
pub one-performed : (performed : List Performed) → IsOrder performed → (p q : Performed) → Contains performed p →
    Contains performed q → HasIssuer p.hart p.order q → p ≡ q
one-performed performed order p q cp cq same =
    only (λ (x y : Performed). HasIssuer x.hart x.order y) performed order.once p q cp cq same (sym same.0, sym same.1)

-- and so is that of its instruction
pub one-issued : (issued : List Issued) → AreSingle issued → (i j : Issued) → Contains issued i → Contains issued j →
    IsOf j.hart j.order i → i ≡ j
one-issued issued single i j ci cj same =
    only (λ (x y : Issued). IsOf y.hart y.order x) issued single i j ci cj same (sym same.0, sym same.1)

module _ (issued : List Issued) (performed : List Performed) (m : Memory) (is : IsMemory issued performed m) where
  -- the store's one effect agrees with it
  pub agree-issue : (store : Issued) (q : Performed) → Contains performed q → HasIssuer store.hart store.order q →
      Agree store q → (p : Performed) → Contains performed p → IsOf p.hart p.order store → Agree store p
  agree-issue store q cq by agree p cp of = subst (Agree store)
      (one-performed performed is.stores.order q p cq cp (sym of.0 ∙ sym by.0, sym of.1 ∙ sym by.1)) agree

  pub issued-more : (store : Issued) (new : Memory) → IsNew issued store → new.stores ≡ m.stores →
      new.issues ≡ m.issues ++ store ∷ [] →
      ((p : Performed) → Contains performed p → IsOf p.hart p.order store → Agree store p) →
      IsMemory (issued ++ store ∷ []) performed new
  issued-more store new is-new stores issues agree = record {
    stores = subst (AreStores performed) (sym stores) is.stores;
    issues = issues ∙ ap (λ (l : List Issued). l ++ store ∷ []) is.issues;
    single = all_pairs_push (λ i j. IsOf j.hart j.order i → ⊥) issued store is.single
        (λ k d low. is-new (get_or issued k d) (Contains-get_or issued k d low));
    agree = λ i p ci cp of. elim (Contains-push_cases issued store i ci) [
      | inl old ↦ is.agree i p old cp of
      | inr same ↦ subst (λ (x : Issued). Agree x p) same
          (agree p cp (subst (IsOf p.hart p.order) (sym same) of))
    ];
  }

  -- the effect's one instruction agrees with it
  pub agree-perform : (store : Performed) (j : Issued) → Contains issued j → IsOf store.hart store.order j →
      Agree j store → (i : Issued) → Contains issued i → IsOf store.hart store.order i → Agree i store
  agree-perform store j cj by agree i ci of = subst (λ (x : Issued). Agree x store)
      (one-issued issued is.single j i cj ci (by.0 ∙ sym of.0, by.1 ∙ sym of.1)) agree

  pub performed-more : (store : Performed) (new : Memory) → AreStores (performed ++ store ∷ []) new.stores →
      new.issues ≡ m.issues →
      ((i : Issued) → Contains issued i → IsOf store.hart store.order i → Agree i store) →
      IsMemory issued (performed ++ store ∷ []) new
  performed-more store new stores issues agree = record {
    stores = stores;
    issues = issues ∙ is.issues;
    single = is.single;
    agree = λ i p ci cp of. elim (Contains-push_cases performed store p cp) [
      | inl old ↦ is.agree i p ci old of
      | inr same ↦ subst (Agree i) same
          (agree i ci (subst (λ (x : Performed). IsOf x.hart x.order i) (sym same) of))
    ];
  }
