-- What the store of one instruction wrote.
use Rattle.std.proofs.Common.{ℕ, ◌≡◌, ◌∙◌, ◌-◌, ◌<◌, ◌∷◌, ◌==◌, [], List, Contains, Some, None, ap, arith}
use Rattle.std.proofs.Common.{get_or, inl, inr, length, refl, subst, sym, true}
use Rattle.std.proofs.lemmas.Bool.{cases_eq, cases_lt, eqb-true}
use Rattle.std.proofs.lemmas.List.Elements.{All-filter, Contains-get_or, filter_passes}
use Rattle.std.proofs.lemmas.List.Kept.{AllPairs-filter}
use Rattle.std.proofs.lemmas.Option.{none-some}
use Rattle.std.specs.List.{AllPairs}
use Rattle.std.specs.Option.{option_or}
use Rattle.rv_log.specs.declared.record.Performed.{Performed}
use Rattle.rv_memory.proofs.Performed.{performed-of}
use Rattle.rv_memory.specs.Stores.{HasIssuer, IsEffect, IsOrder, IsPerformedBy, IsTold, of_word}
use Rattle.rv_memory.specs.declared.stores.Effect.{Effect}
use Rattle.rv_values.proofs.Agreement.{before, one-performed}
use Rattle.rv_values.proofs.Known.{some-same}
use Rattle.rv_values.specs.Index.{IsJust}
use Rattle.rv_values.specs.Memory.{low}
use Rattle.rv_values.specs.Values.{IsMade, IsWritten}
use Rattle.rv_values.specs.declared.issues.Issued.{Issued}

-- a list of one has one
pub the-one : (i x : Issued) → Contains (i ∷ []) x → x ≡ i
the-one i x cx = let low = cx.1 in sym (ap (λ (k : ℕ). get_or (i ∷ []) k x) (first cx.0 low) ∙ cx.2)
  where
    first : (k : ℕ) → k < 1 → 0 ≡ k
    first k below = omega (below, arith)

-- the store of a version is one of its word
pub told-of : (performed : List Performed) (address version : ℕ) (p : Performed) →
    IsTold performed address version (Some p) → Contains performed p × (p.address ≡ address)
told-of performed address version p told =
    let some = told.0 in
    let few = told.1 in
    let low : version - 1 < length (of_word address performed) = omega (some, few, arith) in (
      subst (Contains performed) told.2
          (All-filter (λ q. q.address == address) (Contains performed) performed
          (λ k d below. Contains-get_or performed k d below) (version - 1) p low),
      eqb-true p.address address (subst (λ (q : Performed). (q.address == address) ≡ true) told.2
          (filter_passes (λ q. q.address == address) performed (version - 1) p low)),
    )

module _ (performed : List Performed) (order : IsOrder performed) where
  -- a store makes one version
  pub version-one : (address version other : ℕ) (p : Performed) → IsTold performed address version (Some p) →
      IsTold performed address other (Some p) → version ≡ other
  version-one address version other p told also =
      let some = told.0 in
      let few = told.1 in
      let some' = also.0 in
      let few' = also.1 in
      let first : Contains (of_word address performed) p = (version - 1, omega (some, few, arith), told.2) in
      let second : Contains (of_word address performed) p = (other - 1, omega (some', few', arith), also.2) in
      let apart : AllPairs (λ x y. HasIssuer x.hart x.order y → ⊥) (of_word address performed) =
      AllPairs-filter (λ x y. HasIssuer x.hart x.order y → ⊥) (λ q. q.address == address) performed order.once in
      elim (cases_lt version other) [
        | inl less ↦ absurd (before (λ (x y : Performed). HasIssuer x.hart x.order y) (of_word address performed)
            apart p p first second (omega (some, less, arith)) (refl, refl))
        | inr upto ↦ elim (cases_eq version other) [
          | inl same ↦ same
          | inr differ ↦ absurd (before (λ (x y : Performed). HasIssuer x.hart x.order y)
              (of_word address performed) apart p p second first (omega (some', upto, differ, arith)) (refl, refl))
        ]
      ]

  module _ (i : Issued) where
    -- what it wrote, its effect wrote
    pub effect-of : (address version value : ℕ) (w : IsWritten (i ∷ []) performed address version value) →
        Contains performed w.made.effect × HasIssuer i.hart i.order w.made.effect
    effect-of address version value w =
        let is : w.made.instruction ≡ i = the-one i w.made.instruction w.made.retired in (
          (told-of performed address version w.made.effect w.made.told).0,
          (
            sym w.made.one.0 ∙ ap (λ (x : Issued). x.hart) is,
            sym w.made.one.1 ∙ ap (λ (x : Issued). x.order) is,
          ),
        )

    -- without an effect it wrote nothing
    pub none-written : ((p : Performed) → Contains performed p → HasIssuer i.hart i.order p → ⊥) →
        (address version value : ℕ) → IsWritten (i ∷ []) performed address version value → ⊥
    none-written none address version value w =
        let of = effect-of address version value w in none w.made.effect of.0 of.1

    module _ (effect : Effect) (is : IsEffect performed i.hart i.order effect) where
      -- no store is told of its version, so it wrote nothing
      pub none-told : IsTold performed effect.address effect.version None → (address version value : ℕ) →
          IsWritten (i ∷ []) performed address version value → ⊥
      none-told none = none-written (performed-of performed i.hart i.order effect is None none)

      module _ (store : Performed) (told : IsTold performed effect.address effect.version (Some store)) where
        by : IsPerformedBy performed i.hart i.order (Some store)
        by = performed-of performed i.hart i.order effect is (Some store) told

        abbrev made : IsMade (i ∷ []) performed effect.address effect.version
        made = record {
          effect = store;
          told = told;
          instruction = i;
          retired = (0, omega arith, refl);
          one = (sym by.1.0, sym by.1.1);
        }

        -- it wrote by this effect alone
        same-effect : (address version value : ℕ) (w : IsWritten (i ∷ []) performed address version value) →
            store ≡ w.made.effect
        same-effect address version value w =
            let of = effect-of address version value w in
            one-performed performed order store w.made.effect by.0 of.0
            (of.1.0 ∙ sym by.1.0, of.1.1 ∙ sym by.1.1)

        same-address : (address version value : ℕ) (w : IsWritten (i ∷ []) performed address version value) →
            address ≡ effect.address
        same-address address version value w =
            sym (told-of performed address version w.made.effect w.made.told).1 ∙
            ap (λ (p : Performed). p.address) (sym (same-effect address version value w)) ∙
            (told-of performed effect.address effect.version store told).1

        same-version : (address version value : ℕ) (w : IsWritten (i ∷ []) performed address version value) →
            version ≡ effect.version
        same-version address version value w =
            version-one effect.address version effect.version store
            (subst (λ (a : ℕ). IsTold performed a version (Some store)) (same-address address version value w)
            (subst (λ (p : Performed). IsTold performed address version (Some p))
            (sym (same-effect address version value w)) w.made.told)) told

        same-number : (address version value : ℕ) (w : IsWritten (i ∷ []) performed address version value) →
            option_or store.wdata i.wdata ≡ Some w.number
        same-number address version value w =
            ap (λ (p : Performed). option_or p.wdata i.wdata) (same-effect address version value w) ∙
            ap (λ (x : Issued). option_or w.made.effect.wdata x.wdata)
            (sym (the-one i w.made.instruction w.made.retired)) ∙ w.shown

        pub none-shown : option_or store.wdata i.wdata ≡ None → (address version value : ℕ) →
            IsWritten (i ∷ []) performed address version value → ⊥
        none-shown none address version value w =
            none-some w.number (sym none ∙ same-number address version value w)

        pub just-written : (number : ℕ) → option_or store.wdata i.wdata ≡ Some number →
            IsJust performed i (record {
              address = effect.address;
              version = effect.version;
              value = low i.word.size number;
            })
        just-written number shown = record {
          written = record { made = made; number = number; shown = shown; is = refl };
          just = λ address version value w. (
            same-address address version value w,
            same-version address version value w,
            w.is ∙ ap (λ (x : Issued). low x.word.size w.number) (the-one i w.made.instruction w.made.retired) ∙
                ap (low i.word.size) (some-same w.number number (sym (same-number address version value w) ∙ shown)),
          );
        }
