-- The events of the sources so far.
use Rattle.std.proofs.Common.{◌≡◌, ℕ, ◌+◌, ◌<◌, ◌≤◌, List, [], ◌∷◌, ◌++◌, length, get_or}
use Rattle.std.proofs.Common.{Contains, Option, Some, None, take, ◌⊎◌, arith, false}
use Rattle.std.proofs.Common.{◌↔◌, inl, inr, sym, subst, ◌∙◌}
use Rattle.std.proofs.lemmas.List.{take_all, take_more}
use Rattle.std.proofs.lemmas.List.Elements.{Contains-push, Contains-push_cases, Contains-append_left}
use Rattle.std.proofs.lemmas.Bool.{false≢true}
use Rattle.std.proofs.lemmas.Grind.{common_steps}
use Rattle.std.proofs.lemmas.Option.{same_Some}
use Rattle.rv_insn.specs.declared.unit.Unit.{Unit}
use Rattle.rv_rows.specs.Bits.{Has, has_bit}

-- an event of the instruction itself, or of a source of the list that it carries from
abbrev pub SoFar : Option ℕ → (Unit → Type 0) → (Unit → ℕ → Type 0) → List (Option Unit) → ℕ → Type 0
SoFar event Carried Held known n =
    (event ≡ Some n) ⊎ ((p : Unit) × Contains known (Some p) × Carried p × Held p n)

module _ (event : Option ℕ) (Carried : Unit → Type 0) (Held : Unit → ℕ → Type 0) (items : List (Option Unit)) (k : ℕ)
    (low : k < length items) where
  -- the next source, if it is one
  abbrev pub x : Option Unit
  x = get_or items k None

  grown : take (k + 1) items ≡ take k items ++ x ∷ []
  grown = take_more items k None low

  older : (n : ℕ) → SoFar event Carried Held (take k items) n → SoFar event Carried Held (take (k + 1) items) n
  older n (inl own) = inl own
  older n (inr (p, c, carried, held)) = inr (
    p,
    subst (λ (xs : List (Option Unit)). Contains xs (Some p)) (sym grown)
        (Contains-append_left (take k items) (x ∷ []) (Some p) c),
    carried,
    held,
  )

  -- the next source is one that it carries from
  pub gather-more : (u : Unit) (row row' : List ℕ) → x ≡ Some u → Carried u →
      ((n : ℕ) → Has row n ↔ SoFar event Carried Held (take k items) n) →
      ((n : ℕ) → Has row' n ↔ (Has row n ⊎ Held u n)) →
      (n : ℕ) → Has row' n ↔ SoFar event Carried Held (take (k + 1) items) n
  gather-more u row row' is carried so more n = (to, from)
    where
      to : Has row' n → SoFar event Carried Held (take (k + 1) items) n
      to h = elim ((more n).0 h) [
        | inl old ↦ older n ((so n).0 old)
        | inr new ↦ inr (
          u,
          subst (λ (xs : List (Option Unit)). Contains xs (Some u)) (sym grown)
              (subst (λ (y : Option Unit). Contains (take k items ++ x ∷ []) y) is (Contains-push (take k items) x)),
          carried,
          new,
        )
      ]

      from : SoFar event Carried Held (take (k + 1) items) n → Has row' n
      from (inl own) = (more n).1 (inl ((so n).1 (inl own)))
      from (inr (p, c, carries, held)) =
          elim (Contains-push_cases (take k items) x (Some p)
          (subst (λ (xs : List (Option Unit)). Contains xs (Some p)) grown c)) [
            | inl old ↦ (more n).1 (inl ((so n).1 (inr (p, old, carries, held))))
            | inr new ↦ (more n).1 (inr (subst (λ (v : Unit). Held v n) (same_Some p u (sym new ∙ is)) held))
          ]

  -- or it is not
  pub gather-none : (row : List ℕ) → ((p : Unit) → x ≡ Some p → Carried p → ⊥) →
      ((n : ℕ) → Has row n ↔ SoFar event Carried Held (take k items) n) →
      (n : ℕ) → Has row n ↔ SoFar event Carried Held (take (k + 1) items) n
  gather-none row none so n = (λ h. older n ((so n).0 h), from)
    where
      from : SoFar event Carried Held (take (k + 1) items) n → Has row n
      from (inl own) = (so n).1 (inl own)
      from (inr (p, c, carries, held)) =
          elim (Contains-push_cases (take k items) x (Some p)
          (subst (λ (xs : List (Option Unit)). Contains xs (Some p)) grown c)) [
            | inl old ↦ (so n).1 (inr (p, old, carries, held))
            | inr new ↦ absurd (none p new carries)
          ]

-- all sources
module _ (event : Option ℕ) (Carried : Unit → Type 0) (Held : Unit → ℕ → Type 0) (items : List (Option Unit)) (k : ℕ)
    (all : length items ≤ k) (source : (p : Unit) → Carried p → Contains items (Some p)) where
  pub gathered : (row : List ℕ) → ((n : ℕ) → Has row n ↔ SoFar event Carried Held (take k items) n) →
      (n : ℕ) → Has row n ↔ ((event ≡ Some n) ⊎ ((p : Unit) × Carried p × Held p n))
  gathered row so n = (λ h. to ((so n).0 h), λ next. (so n).1 (from next))
    where
      to : SoFar event Carried Held (take k items) n → (event ≡ Some n) ⊎ ((p : Unit) × Carried p × Held p n)
      to (inl own) = inl own
      to (inr (p, c, carried, held)) = inr (p, carried, held)

      from : (event ≡ Some n) ⊎ ((p : Unit) × Carried p × Held p n) → SoFar event Carried Held (take k items) n
      from (inl own) = inl own
      from (inr (p, carried, held)) = inr (
        p,
        subst (λ (xs : List (Option Unit)). Contains xs (Some p)) (sym (take_all k items all)) (source p carried),
        carried,
        held,
      )

-- ---- where the instruction's own event is left aside
pub none_some : {X : Type 0} (x : X) → None ≡ Some x → ⊥
none_some x is = grind (arith, common_steps)

-- before the first source
pub nothing-so-far : (Carried : Unit → Type 0) (Held : Unit → ℕ → Type 0) (row : List ℕ) →
    ((n : ℕ) → has_bit row n ≡ false) → (n : ℕ) → Has row n ↔ SoFar None Carried Held [] n
nothing-so-far Carried Held row empty n = (λ has. absurd (false≢true (sym (empty n) ∙ has)), λ so. absurd (never so))
  where
    never : SoFar None Carried Held [] n → ⊥
    never (inl none) = none_some n none
    never (inr (p, c, carried, held)) = let low = c.1 in absurd (omega (low, arith))
