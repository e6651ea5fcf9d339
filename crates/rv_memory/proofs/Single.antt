-- A load returned one version.
use Rattle.std.proofs.Common.{ℕ, ◌≡◌, ◌∙◌, ◌+◌, ◌<◌, ◌++◌, ◌∷◌, List, length, sym, ap, arith, subst, inl, inr}
use Rattle.std.proofs.Common.{get_or, take, refl, None}
use Rattle.std.proofs.lemmas.Bool.{cases_lt}
use Rattle.std.proofs.lemmas.List.{get_or_at, length-append, take_at}
use Rattle.rv_log.specs.declared.record.Performed.{Performed}
use Rattle.rv_memory.specs.declared.reads.Load.{Load}
use Rattle.rv_memory.specs.declared.stores.Effect.{Effect}
use Rattle.rv_memory.specs.Reads.{IsForwarded, IsFromMemory, IsRead}
use Rattle.rv_memory.specs.Stores.{IsEffect, IsOrder, IsVersionAt, of_word}
use Rattle.rv_memory.proofs.Lists.{some-same}
use Rattle.rv_memory.proofs.Reading.{within}

module _ (log : List Performed) (order : IsOrder log) where
  -- the store of an instruction stands at one place
  not-before : (hart number : ℕ) (e f : Effect) (is : IsEffect log hart number e) (also : IsEffect log hart number f) →
      length is.before < length also.before → ⊥
  not-before hart number e f is also low =
      let p = is.store in
      let q = also.store in
      let first : get_or log (length is.before) p ≡ p =
      ap (λ (l : List Performed). get_or l (length is.before) p) is.is ∙
      get_or_at is.before p is.after p (length is.before) refl in
      let second : get_or log (length also.before) p ≡ q =
      ap (λ (l : List Performed). get_or l (length also.before) p) also.is ∙
      get_or_at also.before q also.after p (length also.before) refl in
      let long = ap (λ (l : List Performed). length l) also.is in
      let parts = length-append also.before (q ∷ also.after) in
      order.once (length is.before) (length also.before) p low (omega (long, parts, arith)) (
        ap (λ (x : Performed). x.hart) second ∙ also.issuer.0 ∙ sym is.issuer.0 ∙
            sym (ap (λ (x : Performed). x.hart) first),
        ap (λ (x : Performed). x.order) second ∙ also.issuer.1 ∙ sym is.issuer.1 ∙
            sym (ap (λ (x : Performed). x.order) first),
      )

  same-place : (hart number : ℕ) (e f : Effect) (is : IsEffect log hart number e) (also : IsEffect log hart number f) →
      length is.before ≡ length also.before
  same-place hart number e f is also = elim (cases_lt (length is.before) (length also.before)) [
    | inl low ↦ absurd (not-before hart number e f is also low)
    | inr upto ↦ elim (cases_lt (length also.before) (length is.before)) [
      | inl low ↦ absurd (not-before hart number f e also is low)
      | inr from ↦ omega (upto, from, arith)
    ]
  ]

  -- so it has one effect
  same-before : (hart number : ℕ) (e f : Effect) (is : IsEffect log hart number e) (also : IsEffect log hart number f) →
      is.before ≡ also.before
  same-before hart number e f is also =
      sym (take_at is.before (is.store ∷ is.after) (length is.before) refl) ∙
      ap (take (length is.before)) (sym is.is ∙ also.is) ∙
      ap (λ (n : ℕ). take n (also.before ++ also.store ∷ also.after)) (same-place hart number e f is also) ∙
      take_at also.before (also.store ∷ also.after) (length also.before) refl

  same-store : (hart number : ℕ) (e f : Effect) (is : IsEffect log hart number e) (also : IsEffect log hart number f) →
      is.store ≡ also.store
  same-store hart number e f is also =
      let p = is.store in
      sym (get_or_at is.before p is.after p (length is.before) refl) ∙
      ap (λ (l : List Performed). get_or l (length is.before) p) (sym is.is ∙ also.is) ∙
      get_or_at also.before also.store also.after p (length is.before) (sym (same-place hart number e f is also))

  same-version : (hart number : ℕ) (e f : Effect) → IsEffect log hart number e → IsEffect log hart number f →
      e.version ≡ f.version
  same-version hart number e f is also = is.version ∙
      ap (λ (p : Performed). length (of_word p.address is.before) + 1) (same-store hart number e f is also) ∙
      ap (λ (l : List Performed). length (of_word also.store.address l) + 1) (same-before hart number e f is also) ∙
      sym also.version

  same-time : (hart number : ℕ) (e f : Effect) → IsEffect log hart number e → IsEffect log hart number f →
      e.time ≡ f.time
  same-time hart number e f is also = is.time ∙
      ap (λ (p : Performed). p.time) (same-store hart number e f is also) ∙ sym also.time

  -- a word has one version at a time
  not-less : (address time n m : ℕ) → IsVersionAt log address time n → IsVersionAt log address time m → n < m → ⊥
  not-less address time n m is also low =
      let d : Performed = record { hart = 0; order = 0; address = 0; wdata = None; time = 0 } in
      let upto = within log address time m also in
      let after = is.1 n d (omega arith) (omega (low, upto, arith)) in
      let before = also.0 n d (omega arith) low in
      omega (after, before, arith)

  one-at : (address time n m : ℕ) → IsVersionAt log address time n → IsVersionAt log address time m → n ≡ m
  one-at address time n m is also = elim (cases_lt n m) [
    | inl low ↦ absurd (not-less address time n m is also low)
    | inr upto ↦ elim (cases_lt m n) [
      | inl low ↦ absurd (not-less address time m n also is low)
      | inr from ↦ omega (upto, from, arith)
    ]
  ]

  -- what is forwarded was not in memory
  apart : (load : Load) (v w : ℕ) → IsForwarded log load v → IsFromMemory log load w → ⊥
  apart load v w is also =
      let early = also.earlier is.order is.own in
      let same = same-time load.hart is.order is.effect early.0 is.is_effect early.1 in
      let later = is.later in
      let upto = early.2 in
      omega (same, later, upto, arith)

  pub one-version : (load : Load) (v w : ℕ) → IsRead log load v → IsRead log load w → v ≡ w
  one-version load v w (inl is) (inl also) =
      let number = some-same is.order also.order (sym is.own ∙ also.own) in
      is.returned ∙ same-version load.hart also.order is.effect also.effect
      (subst (λ (n : ℕ). IsEffect log load.hart n is.effect) number is.is_effect) also.is_effect ∙ sym also.returned
  one-version load v w (inl is) (inr also) = absurd (apart load v w is also)
  one-version load v w (inr is) (inl also) = absurd (apart load w v also is)
  one-version load v w (inr is) (inr also) = one-at load.address load.time v w is.returned also.returned
