-- Destinations so far have their new events, and other units those that they had.
use Rattle.std.proofs.Common.{◌≡◌, ℕ, ◌+◌, ◌<◌, List, [], ◌∷◌, ◌++◌, length, get_or, Contains, Option, Some, None, take}
use Rattle.std.proofs.Common.{◌⊎◌, ◌↔◌, inl, inr, sym, subst, ◌∙◌, arith}
use Rattle.std.proofs.lemmas.List.{take_more}
use Rattle.std.proofs.lemmas.List.Elements.{Contains-push, Contains-push_cases, Contains-append_left}
use Rattle.std.proofs.lemmas.Option.{same_Some}
use Rattle.rv_insn.specs.declared.unit.Unit.{Unit}
use Rattle.rv_flow.proofs.Units.{cases_unit}

-- units of the list have their new events, and others their old ones
abbrev pub After : List (Option Unit) → (Unit → ℕ → Type 0) → (Unit → ℕ → Type 0) → (Unit → ℕ → Type 0) → Type 0
After known Fresh Old New =
    (u : Unit) (n : ℕ) →
    New u n ↔ ((Contains known (Some u) × Fresh u n) ⊎ ((Contains known (Some u) → ⊥) × Old u n))

-- before the first
pub after-none : (Fresh Old : Unit → ℕ → Type 0) → After [] Fresh Old Old
after-none Fresh Old u n = (λ h. inr (λ c. empty c, h), from)
  where
    empty : Contains [] (Some u) → ⊥
    empty c = let low = c.1 in absurd (omega (low, arith))

    from : (Contains [] (Some u) × Fresh u n) ⊎ ((Contains [] (Some u) → ⊥) × Old u n) → Old u n
    from (inl (c, _)) = absurd (empty c)
    from (inr (_, h)) = h

module _ (items : List (Option Unit)) (k : ℕ) (low : k < length items) (Fresh Old Mid : Unit → ℕ → Type 0)
    (before : After (take k items) Fresh Old Mid) where
  -- the next one, if it is a unit
  abbrev pub x : Option Unit
  x = get_or items k None

  grown : take (k + 1) items ≡ take k items ++ x ∷ []
  grown = take_more items k None low

  more : (u : Unit) → Contains (take k items) (Some u) → Contains (take (k + 1) items) (Some u)
  more u c = subst (λ (xs : List (Option Unit)). Contains xs (Some u)) (sym grown)
      (Contains-append_left (take k items) (x ∷ []) (Some u) c)

  less : (u : Unit) → Contains (take (k + 1) items) (Some u) → Contains (take k items) (Some u) ⊎ (x ≡ Some u)
  less u c = Contains-push_cases (take k items) x (Some u)
      (subst (λ (xs : List (Option Unit)). Contains xs (Some u)) grown c)

  -- it is one, which has its new events
  module _ (New : Unit → ℕ → Type 0) (unit : Unit) (is : x ≡ Some unit) (Row : ℕ → Type 0)
      (next : (n : ℕ) → Row n ↔ Fresh unit n)
      (set : (u : Unit) (n : ℕ) → New u n ↔ (((u ≡ unit) × Row n) ⊎ ((u ≡ unit → ⊥) × Mid u n))) where
    newest : Contains (take (k + 1) items) (Some unit)
    newest = subst (λ (xs : List (Option Unit)). Contains xs (Some unit)) (sym grown)
        (subst (λ (y : Option Unit). Contains (take k items ++ x ∷ []) y) is (Contains-push (take k items) x))

    pub after-set : After (take (k + 1) items) Fresh Old New
    after-set u n = (λ h. to ((set u n).0 h), λ h. (set u n).1 (from (cases_unit u unit) h))
      where
        to : ((u ≡ unit) × Row n) ⊎ ((u ≡ unit → ⊥) × Mid u n) →
            (Contains (take (k + 1) items) (Some u) × Fresh u n) ⊎
            ((Contains (take (k + 1) items) (Some u) → ⊥) × Old u n)
        to (inl (same, has)) = inl (
          subst (λ (v : Unit). Contains (take (k + 1) items) (Some v)) (sym same) newest,
          subst (λ (v : Unit). Fresh v n) (sym same) ((next n).0 has),
        )
        to (inr (apart, mid)) = elim ((before u n).0 mid) [
          | inl had ↦ inl (more u had.0, had.1)
          | inr had ↦ inr (
            λ c. elim (less u c) [
              | inl older ↦ had.0 older
              | inr same ↦ apart (sym (same_Some unit u (sym is ∙ same)))
            ],
            had.1,
          )
        ]

        from : (u ≡ unit) ⊎ (u ≡ unit → ⊥) → (Contains (take (k + 1) items) (Some u) × Fresh u n) ⊎
            ((Contains (take (k + 1) items) (Some u) → ⊥) × Old u n) →
            ((u ≡ unit) × Row n) ⊎ ((u ≡ unit → ⊥) × Mid u n)
        from (inl same) (inl (c, fresh)) = inl (same, (next n).1 (subst (λ (v : Unit). Fresh v n) same fresh))
        from (inl same) (inr (none, old)) =
            absurd (none (subst (λ (v : Unit). Contains (take (k + 1) items) (Some v)) (sym same) newest))
        from (inr apart) (inl (c, fresh)) = inr (
          apart,
          elim (less u c) [
            | inl older ↦ (before u n).1 (inl (older, fresh))
            | inr same ↦ absurd (apart (sym (same_Some unit u (sym is ∙ same))))
          ],
        )
        from (inr apart) (inr (none, old)) = inr (apart, (before u n).1 (inr (λ c. none (more u c), old)))

  -- it is none
  pub after-skip : ((u : Unit) → x ≡ Some u → ⊥) → After (take (k + 1) items) Fresh Old Mid
  after-skip none u n = (λ h. to ((before u n).0 h), λ h. (before u n).1 (from h))
    where
      same-known : Contains (take (k + 1) items) (Some u) → Contains (take k items) (Some u)
      same-known c = elim (less u c) [ inl older ↦ older | inr is ↦ absurd (none u is) ]

      to : (Contains (take k items) (Some u) × Fresh u n) ⊎ ((Contains (take k items) (Some u) → ⊥) × Old u n) →
          (Contains (take (k + 1) items) (Some u) × Fresh u n) ⊎
          ((Contains (take (k + 1) items) (Some u) → ⊥) × Old u n)
      to (inl (c, fresh)) = inl (more u c, fresh)
      to (inr (none', old)) = inr (λ c. none' (same-known c), old)

      from : (Contains (take (k + 1) items) (Some u) × Fresh u n) ⊎
          ((Contains (take (k + 1) items) (Some u) → ⊥) × Old u n) →
          (Contains (take k items) (Some u) × Fresh u n) ⊎ ((Contains (take k items) (Some u) → ⊥) × Old u n)
      from (inl (c, fresh)) = inl (same-known c, fresh)
      from (inr (none', old)) = inr (λ c. none' (more u c), old)
