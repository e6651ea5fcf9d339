-- A set's numbers, from the highest on.
use Rattle.std.proofs.Common.{◌≡◌, ℕ, ◌+◌, ◌<◌, false, not, ◌&&◌, ◌==◌, List, [], ◌∷◌, ◌++◌, Contains}
use Rattle.std.proofs.Common.{reverse, Option, Some, None, ◌⊎◌, ◌↔◌, inl, inr, sym, ap, subst, ◌∙◌, arith, eq-eqb}
use Rattle.std.proofs.lemmas.Bool.{and_from, and_parts, cases_eq, cases_lt, false≢true, ne_eqb}
use Rattle.std.proofs.lemmas.List.Elements.{Contains-append_left, Contains-push, Contains-push_cases}
use Rattle.std.proofs.lemmas.List.{reverse-reverse}
use Rattle.std.proofs.lemmas.List.Sorted.{Contains-permutation, IsPermutation-reverse}
use Rattle.std.specs.Prelude.{IsPermutation}
use Rattle.rv_rows.specs.Bits.{Has, has_bit, IsHighest}

-- a number above each of a set
abbrev pub above : Option ℕ → ℕ
above None = 0
above (Some h) = h + 1

module _ (rest rest' : List ℕ) (latest : Option ℕ) (h : ℕ) (is-latest : latest ≡ Some h)
    (is-highest : IsHighest rest latest)
    (removed : (j : ℕ) → has_bit rest' j ≡ (has_bit rest j && not (h == j))) where
  highest : IsHighest rest (Some h)
  highest = subst (λ (o : Option ℕ). IsHighest rest o) is-latest is-highest

  -- what is left is not the number that was taken out
  left : (n : ℕ) → Has rest' n → Has rest n × (h ≡ n → ⊥)
  left n has =
      let both = and_parts (has_bit rest n) (not (h == n)) (sym (removed n) ∙ has) in
      (both.0, λ same. false≢true (sym (ap not (eq-eqb h n same)) ∙ both.1))

  left-still : (n : ℕ) → Has rest n → (h ≡ n → ⊥) → Has rest' n
  left-still n has apart =
      removed n ∙ and_from (has_bit rest n) (not (h == n)) has (ap not (ne_eqb h n apart))

  -- the number goes from the set to the list
  pub one-number : (set numbers : List ℕ) → ((n : ℕ) → Has set n ↔ (Has rest n ⊎ Contains numbers n)) →
      (numbers' : List ℕ) → numbers' ≡ numbers ++ h ∷ [] →
      (n : ℕ) → Has set n ↔ (Has rest' n ⊎ Contains numbers' n)
  one-number set numbers known numbers' is n = (to, from)
    where
      with-it : Contains (numbers ++ h ∷ []) n → Contains numbers' n
      with-it c = subst (λ (l : List ℕ). Contains l n) (sym is) c

      to : Has set n → Has rest' n ⊎ Contains numbers' n
      to has = elim ((known n).0 has) [
        | inl still ↦ elim (cases_eq h n) [
          | inl same ↦ inr (with-it (subst (λ (m : ℕ). Contains (numbers ++ h ∷ []) m) same (Contains-push numbers h)))
          | inr apart ↦ inl (left-still n still apart)
        ]
        | inr listed ↦ inr (with-it (Contains-append_left numbers (h ∷ []) n listed))
      ]

      from : Has rest' n ⊎ Contains numbers' n → Has set n
      from (inl has) = (known n).1 (inl (left n has).0)
      from (inr listed) = elim (Contains-push_cases numbers h n (subst (λ (l : List ℕ). Contains l n) is listed)) [
        | inl old ↦ (known n).1 (inr old)
        | inr same ↦ (known n).1 (inl (subst (λ (m : ℕ). Has rest m) same highest.1))
      ]

  -- the next one is lower
  lower : (latest' : Option ℕ) → IsHighest rest' latest' → above latest' < above (Some h)
  lower None is = omega arith
  lower (Some k) is =
      let both = left k is.1 in
      elim (cases_lt h k) [
        | inl later ↦ absurd (false≢true (sym (highest.2 k later) ∙ both.0))
        | inr before ↦ (let apart = both.1 in
            elim (cases_eq h k) [
              | inl same ↦ absurd (apart same)
              | inr other ↦ omega (before, other, arith)
            ])
      ]

  pub smaller : (latest' : Option ℕ) → IsHighest rest' latest' → above latest' < above latest
  smaller latest' is = subst (λ (o : Option ℕ). above latest' < above o) (sym is-latest) (lower latest' is)

-- where nothing is left, the list has all
pub all-numbers : (set rest numbers numbers' : List ℕ) (latest : Option ℕ) → latest ≡ None → IsHighest rest latest →
    ((n : ℕ) → Has set n ↔ (Has rest n ⊎ Contains numbers n)) → numbers' ≡ reverse numbers →
    (n : ℕ) → Has set n ↔ Contains numbers' n
all-numbers set rest numbers numbers' latest none is known turned n = (to, from)
  where
    empty : (j : ℕ) → has_bit rest j ≡ false
    empty = subst (λ (o : Option ℕ). IsHighest rest o) none is

    same : IsPermutation numbers numbers'
    same = subst (λ (l : List ℕ). IsPermutation numbers l) (sym turned) (IsPermutation-reverse numbers)

    back : IsPermutation numbers' numbers
    back = subst (λ (l : List ℕ). IsPermutation l numbers) (sym turned)
        (subst (λ (l : List ℕ). IsPermutation (reverse numbers) l) (reverse-reverse numbers)
        (IsPermutation-reverse (reverse numbers)))

    to : Has set n → Contains numbers' n
    to has = elim ((known n).0 has) [
      | inl still ↦ absurd (false≢true (sym (empty n) ∙ still))
      | inr listed ↦ Contains-permutation numbers numbers' n same listed
    ]

    from : Contains numbers' n → Has set n
    from listed = (known n).1 (inr (Contains-permutation numbers' numbers n back listed))
