-- What loads returned, as more stores take effect.
use Rattle.std.proofs.Common.{ℕ, ◌≡◌, ◌+◌, ◌<◌, ◌≤◌, ◌++◌, ◌∷◌, ◌⊎◌, List, length, refl, sym, ap, ◌∙◌, subst, arith}
use Rattle.std.proofs.Common.{All, Some, None, get_or, inl, inr, ◌==◌, ◌-◌}
use Rattle.std.proofs.lemmas.Bool.{cases_lt}
use Rattle.std.proofs.lemmas.List.{append_assoc, get_or_append_left, get_or-append_right, get_or_default}
use Rattle.std.proofs.lemmas.List.{get_or_past, length-append}
use Rattle.std.proofs.lemmas.List.Elements.{All-filter, filter-append}
use Rattle.std.specs.List.Sorted.{IsPartitionPoint}
use Rattle.rv_log.specs.declared.record.Performed.{Performed}
use Rattle.rv_memory.specs.declared.reads.Load.{Load}
use Rattle.rv_memory.specs.declared.stores.Effect.{Effect}
use Rattle.rv_memory.specs.Reads.{IsRead}
use Rattle.rv_memory.specs.Stores.{IsEffect, IsLast, IsOrder, IsVersionAt, of_word}

-- the effect of a store stays
pub effect-more : (log more : List Performed) (hart order : ℕ) (effect : Effect) → IsEffect log hart order effect →
    IsEffect (log ++ more) hart order effect
effect-more log more hart order effect is = record {
  before = is.before;
  store = is.store;
  after = is.after ++ more;
  is = ap (λ (l : List Performed). l ++ more) is.is ∙ append_assoc is.before (is.store ∷ is.after) more;
  issuer = is.issuer;
  address = is.address;
  version = is.version;
  time = is.time;
}

abbrev late-one : ℕ → Performed
late-one time = record { hart = 0; order = 0; address = 0; wdata = None; time = time + 1 }

-- no more stores had taken effect than there are
pub within : (log : List Performed) (address time n : ℕ) → IsVersionAt log address time n →
    n ≤ length (of_word address log)
within log address time n is = from (cases_lt (length (of_word address log)) n)
  where
    from : (length (of_word address log) < n) ⊎ (n ≤ length (of_word address log)) → n ≤ length (of_word address log)
    from (inl low) = absurd (omega (
      arith,
      subst (λ (p : Performed). p.time ≤ time)
          (get_or_past (of_word address log) (length (of_word address log)) (late-one time) (omega arith))
          (is.0 (length (of_word address log)) (late-one time) (omega arith) low),
    ))
    from (inr upto) = upto

-- stores that come after a time leave the version that a word had then
module _ (log more : List Performed) (address time n : ℕ) (later : All (λ p. time < p.time) more)
    (is : IsVersionAt log address time n) where
  abbrev old : List Performed
  old = of_word address log

  abbrev new : List Performed
  new = of_word address more

  taken : (k : ℕ) (d : Performed) → 0 ≤ k → k < n → (get_or (old ++ new) k d).time ≤ time
  taken k d low high =
      let upto = within log address time n is in
      subst (λ (p : Performed). p.time ≤ time) (sym (get_or_append_left old new d k (omega (high, upto, arith))))
      (is.0 k d low high)

  behind : (k : ℕ) (d : Performed) → n ≤ k → k < length (old ++ new) → time < (get_or (old ++ new) k d).time
  behind k d low high = elim (cases_lt k (length old)) [
    | inl first ↦ subst (λ (p : Performed). time < p.time) (sym (get_or_append_left old new d k first))
        (is.1 k d low first)
    | inr second ↦ (
        let long = length-append old new in
        subst (λ (p : Performed). time < p.time)
        (sym (get_or-append_right old new (length old) k d refl second))
        (All-filter (λ p. p.address == address) (λ p. time < p.time) more later (k - length old) d
        (omega (high, long, second, arith))))
  ]

  version-more : IsVersionAt (log ++ more) address time n
  version-more = subst (λ (w : List Performed). IsPartitionPoint (λ p. p.time ≤ time) (λ p. time < p.time) w n)
      (sym (filter-append (λ p. p.address == address) log more)) (taken, behind)

-- what comes behind is not before the last
pub later-more : (log more : List Performed) (latest time : ℕ) → IsOrder (log ++ more) → IsLast log latest →
    time < latest → All (λ p. time < p.time) more
later-more log more latest time order last past k d low = elim last.some [
  | inl none ↦ absurd (omega (none, past, arith))
  | inr some ↦ (
      let p = some.0 in
      let long = length-append log more in
      let first : get_or (log ++ more) some.1.0 d ≡ p =
      get_or_append_left log more d some.1.0 some.1.1 ∙ get_or_default log some.1.0 d p some.1.1 ∙ some.1.2 in
      let second : get_or (log ++ more) (length log + k) d ≡ get_or more k d =
      get_or-append_right log more (length log) (length log + k) d refl (omega arith) ∙
      ap (λ (i : ℕ). get_or more i d) (omega arith) in
      let pair = order.ascending some.1.0 (length log + k) d (let inside = some.1.1 in omega (inside, arith))
      (omega (low, long, arith)) in
      let before = ap (λ (x : Performed). x.time) first in
      let behind = ap (λ (x : Performed). x.time) second in
      let at = some.2 in
      omega (pair, before, behind, at, past, arith))
]

module _ (log more : List Performed) (load : Load) where
  pub forwarded : (order : ℕ) → load.own ≡ Some order → (effect : Effect) → IsEffect log load.hart order effect →
      load.time < effect.time → IsRead (log ++ more) load effect.version
  forwarded order own effect is later = inl (record {
    order = order;
    own = own;
    effect = effect;
    is_effect = effect-more log more load.hart order effect is;
    later = later;
    returned = refl;
  })

  pub from-memory : (n : ℕ) → ((order : ℕ) → load.own ≡ Some order →
      (effect : Effect) × IsEffect log load.hart order effect × (effect.time ≤ load.time)) →
      All (λ p. load.time < p.time) more → IsVersionAt log load.address load.time n → IsRead (log ++ more) load n
  from-memory n own later is = inr (record {
    earlier = λ order same.
        let effect = own order same in
        (effect.0, effect-more log more load.hart order effect.0 effect.1, effect.2);
    returned = version-more log more load.address load.time n later is;
  })
