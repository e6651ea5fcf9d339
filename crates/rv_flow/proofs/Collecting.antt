-- The events of a set, listed one after the other.
use Rattle.std.proofs.Common.{◌≡◌, ℕ, ◌+◌, ◌<◌, ◌≤◌, false, List, [], ◌∷◌, ◌++◌, length, get_or, take, Contains}
use Rattle.std.proofs.Common.{◌⊎◌, ◌↔◌, inl, inr, sym, subst, ◌∙◌}
use Rattle.std.proofs.lemmas.Bool.{false≢true}
use Rattle.std.proofs.lemmas.List.{get_or_default, take_all, take_more}
use Rattle.std.proofs.lemmas.List.Elements.{Contains-append_left, Contains-push, Contains-push_cases}
use Rattle.rv_rows.specs.Bits.{Has, has_bit}

-- `first` is the set of the carriers that cover some, `rest` what is left, and `items` its numbers
module _ (set copy empty first rest items : List ℕ) (none : (j : ℕ) → has_bit empty j ≡ false)
    (copied : (n : ℕ) → Has copy n ↔ Has set n)
    (moved : (n : ℕ) → (Has first n ⊎ Has rest n) ↔ (Has empty n ⊎ Has copy n))
    (numbers : (n : ℕ) → Has rest n ↔ Contains items n) where
  in-both : (n : ℕ) → Has first n ⊎ Has rest n → Has set n
  in-both n h = elim ((moved n).0 h) [
    | inl nothing ↦ absurd (false≢true (sym (none n) ∙ nothing))
    | inr all ↦ (copied n).0 all
  ]

  from-set : (n : ℕ) → Has set n → Has first n ⊎ Has rest n
  from-set n has = (moved n).1 (inr ((copied n).1 has))

  -- each number is the set's
  pub in-set : (k : ℕ) → k < length items → Has set (get_or items k 0)
  in-set k low =
      in-both (get_or items k 0) (inr ((numbers (get_or items k 0)).1
      (k, low, get_or_default items k (get_or items k 0) 0 low)))

  -- one more of them
  pub one-event : (k : ℕ) → k < length items → (list list' : List ℕ) →
      ((n : ℕ) → Has list n ↔ (Has first n ⊎ Contains (take k items) n)) →
      ((n : ℕ) → Has list' n ↔ (Has list n ⊎ (get_or items k 0 ≡ n))) →
      (n : ℕ) → Has list' n ↔ (Has first n ⊎ Contains (take (k + 1) items) n)
  one-event k low list list' so more n = (to, from)
    where
      x : ℕ
      x = get_or items k 0

      grown : take (k + 1) items ≡ take k items ++ x ∷ []
      grown = take_more items k 0 low

      later : Contains (take k items ++ x ∷ []) n → Contains (take (k + 1) items) n
      later c = subst (λ (l : List ℕ). Contains l n) (sym grown) c

      to : Has list' n → Has first n ⊎ Contains (take (k + 1) items) n
      to has = elim ((more n).0 has) [
        | inl old ↦ elim ((so n).0 old) [
          | inl covered ↦ inl covered
          | inr listed ↦ inr (later (Contains-append_left (take k items) (x ∷ []) n listed))
        ]
        | inr new ↦ inr (later (subst (λ (m : ℕ). Contains (take k items ++ x ∷ []) m) new
            (Contains-push (take k items) x)))
      ]

      from : Has first n ⊎ Contains (take (k + 1) items) n → Has list' n
      from (inl covered) = (more n).1 (inl ((so n).1 (inl covered)))
      from (inr listed) = elim (Contains-push_cases (take k items) x n
          (subst (λ (l : List ℕ). Contains l n) grown listed)) [
            | inl old ↦ (more n).1 (inl ((so n).1 (inr old)))
            | inr new ↦ (more n).1 (inr new)
          ]

  -- and all
  pub all-events : (k : ℕ) → length items ≤ k → (list : List ℕ) →
      ((n : ℕ) → Has list n ↔ (Has first n ⊎ Contains (take k items) n)) → (n : ℕ) → Has list n ↔ Has set n
  all-events k all list so n = (
    λ has. elim ((so n).0 has) [
      | inl covered ↦ in-both n (inl covered)
      | inr listed ↦ in-both n (inr ((numbers n).1
          (subst (λ (l : List ℕ). Contains l n) (take_all k items all) listed)))
    ],
    λ has. elim (from-set n has) [
      | inl covered ↦ (so n).1 (inl covered)
      | inr left ↦ (so n).1 (inr (subst (λ (l : List ℕ). Contains l n) (sym (take_all k items all))
          ((numbers n).0 left)))
    ],
  )
