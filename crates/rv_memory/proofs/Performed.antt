-- The store of an instruction, by its effect.
use Rattle.std.proofs.Common.{ℕ, ◌≡◌, ◌∙◌, ◌+◌, ◌<◌, ◌++◌, ◌∷◌, ◌==◌, ◌-◌, List, Contains, Option, Some, None, Bool}
use Rattle.std.proofs.Common.{ap, arith, cond, eq-eqb, get_or, inl, inr, length, refl, subst, sym}
use Rattle.std.proofs.lemmas.List.{get_or-append_right, length-append}
use Rattle.std.proofs.lemmas.List.Elements.{Contains-append_right, filter-append}
use Rattle.rv_log.specs.declared.record.Performed.{Performed}
use Rattle.rv_memory.specs.Stores.{IsEffect, IsPerformedBy, IsTold, of_word}
use Rattle.rv_memory.specs.declared.stores.Effect.{Effect}

module _ (log : List Performed) (hart order : ℕ) (effect : Effect) (is : IsEffect log hart order effect) where
  -- the stores of its word, with it among them
  around : of_word effect.address log ≡ of_word effect.address is.before ++ is.store ∷ of_word effect.address is.after
  around = ap (of_word effect.address) is.is ∙
      filter-append (λ p. p.address == effect.address) is.before (is.store ∷ is.after) ∙
      ap (λ (b : Bool). of_word effect.address is.before ++
      cond b (is.store ∷ of_word effect.address is.after) (of_word effect.address is.after))
      (eq-eqb is.store.address effect.address (sym is.address))

  count : effect.version ≡ length (of_word effect.address is.before) + 1
  count = is.version ∙ ap (λ (a : ℕ). length (of_word a is.before) + 1) (sym is.address)

  many : effect.version < length (of_word effect.address log) + 1
  many =
      let all = ap (λ (l : List Performed). length l) around in
      let long = length-append (of_word effect.address is.before) (is.store ∷ of_word effect.address is.after) in
      let at = count in
      omega (all, long, at, arith)

  -- the store that is told of its version
  pub performed-of : (o : Option Performed) → IsTold log effect.address effect.version o →
      IsPerformedBy log hart order o
  performed-of None (inl zero) = let at = count in absurd (omega (zero, at, arith))
  performed-of None (inr past) = let high = many in absurd (omega (past, high, arith))
  performed-of (Some p) told =
      let first : List Performed = of_word effect.address is.before in
      let rest : List Performed = is.store ∷ of_word effect.address is.after in
      let place : effect.version - 1 ≡ length first = (let at = count in omega (at, arith)) in
      let start : length first - length first ≡ 0 = omega arith in
      let same : is.store ≡ p =
      sym (get_or-append_right first rest (length first) (length first) p refl (omega arith) ∙
      ap (λ (k : ℕ). get_or rest k p) start) ∙
      ap (λ (l : List Performed). get_or l (length first) p) (sym around) ∙
      ap (λ (k : ℕ). get_or (of_word effect.address log) k p) (sym place) ∙ told.2 in
      subst (IsPerformedBy log hart order) (ap Some same) (
        subst (λ (l : List Performed). Contains l is.store) (sym is.is)
            (Contains-append_right is.before (is.store ∷ is.after) is.store (0, omega arith, refl)),
        is.issuer,
      )
