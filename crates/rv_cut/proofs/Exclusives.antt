-- The last LR, SC or failed SC of a hart, with one event more.
use Rattle.std.proofs.Common.{IsTrue, List, None, Option, Some, arith, inl, inr, refl, subst, sym, ℕ, [], ◌++◌}
use Rattle.std.proofs.Common.{◌∷◌, ◌≡◌, ◌≤◌}
use Rattle.std.proofs.lemmas.List.Elements.{Contains-append_left, Contains-push, Contains-push_cases}
use Rattle.rv_event.specs.Operations.{is_exclusive}
use Rattle.rv_event.specs.declared.event.Event.{Event}
use Rattle.rv_cut.specs.Exclusives.{IsExclusiveOf, IsLastExclusive}

module _ (log : List Event) (hart : ℕ) (e : Event) where
  -- an event that is not one of them leaves the last as it is
  pub last-stays : (o : Option Event) → (IsExclusiveOf (log ++ e ∷ []) hart e → ⊥) → IsLastExclusive log hart o →
      IsLastExclusive (log ++ e ∷ []) hart o
  last-stays None none before = λ m is. elim (Contains-push_cases log e m is.of_log) [
    | inl old ↦ before m (record { of_log = old; own = is.own; exclusive = is.exclusive })
    | inr same ↦ none (subst (IsExclusiveOf (log ++ e ∷ []) hart) (sym same) is)
  ]
  last-stays (Some l) none (there, highest) = (
    record { of_log = Contains-append_left log (e ∷ []) l there.of_log; own = there.own; exclusive = there.exclusive },
    λ m is. elim (Contains-push_cases log e m is.of_log) [
      | inl old ↦ highest m (record { of_log = old; own = is.own; exclusive = is.exclusive })
      | inr same ↦ absurd (none (subst (IsExclusiveOf (log ++ e ∷ []) hart) (sym same) is))
    ],
  )

  -- one that is lower than the last does too
  pub last-higher : (l : Event) → e.id.seq ≤ l.id.seq → IsLastExclusive log hart (Some l) →
      IsLastExclusive (log ++ e ∷ []) hart (Some l)
  last-higher l lower (there, highest) = (
    record { of_log = Contains-append_left log (e ∷ []) l there.of_log; own = there.own; exclusive = there.exclusive },
    λ m is. elim (Contains-push_cases log e m is.of_log) [
      | inl old ↦ highest m (record { of_log = old; own = is.own; exclusive = is.exclusive })
      | inr same ↦ subst (λ (x : Event). x.id.seq ≤ l.id.seq) same lower
    ],
  )

  -- and else it is the last
  pub last-new : (o : Option Event) → e.id.hart ≡ hart → IsTrue (is_exclusive e.op) → IsLastExclusive log hart o →
      ((l : Event) → o ≡ Some l → l.id.seq ≤ e.id.seq) → IsLastExclusive (log ++ e ∷ []) hart (Some e)
  last-new o own exclusive before higher = (
    record { of_log = Contains-push log e; own = own; exclusive = exclusive },
    λ m is. elim (Contains-push_cases log e m is.of_log) [
      | inl old ↦ below m (record { of_log = old; own = is.own; exclusive = is.exclusive })
      | inr same ↦ subst (λ (x : Event). x.id.seq ≤ e.id.seq) same (omega arith)
    ],
  )
    where
      go : (p : Option Event) → o ≡ p → IsLastExclusive log hart p → (m : Event) → IsExclusiveOf log hart m →
          m.id.seq ≤ e.id.seq
      go None is none m there = absurd (none m there)
      go (Some l) is (_, highest) m there =
          let one = highest m there in let two = higher l is in omega (arith, one, two)

      below : (m : Event) → IsExclusiveOf log hart m → m.id.seq ≤ e.id.seq
      below = go o refl before
