-- The candidates, to which each rule has added what it orders, are enough.
use Rattle.rv_hart.proofs.Common.{◌≡◌, ℕ, ◌+◌, ◌<◌, ◌≤◌, List, length, Contains, ◌⊎◌, inl, inr, refl, arith, subst}
use Rattle.rv_hart.proofs.Common.{cases_lt, cases_eq, rules, Condition-number, Condition-above, Rule, Event, Has}
use Rattle.rv_hart.proofs.Common.{RowHas, Hart, followed, IsOrderedBy, IsCandidate, IsGenerated, IsEnough, RowsMean}
use Rattle.rv_hart.proofs.Common.{Adds, IsLeadingRow, has_bit, ◌||◌, or_cases, or_left, or_right, sym, ◌∙◌}
use Rattle.rv_hart.proofs.HartFacts.{Fits}
use Rattle.rv_hart.proofs.RowMeanings.{row_own, rule-old}

-- the row of rules 1 and 2, to which the rules from 3 to this one have added
pub record AreAdded (h : Hart) (e : Event) (k : ℕ) (first row : List ℕ) : Type 0 where
  pub sound : (s : ℕ) → Has row s → Has first s ⊎ IsCandidate h e s
  pub kept : (s : ℕ) → Has first s → Has row s
  pub each : (j s : ℕ) → 2 < j → j ≤ k → IsOrderedBy h e j s → Has row s

-- no rule has added anything yet
pub added-none : (h : Hart) (e : Event) (first : List ℕ) → AreAdded h e 2 first first
added-none h e first = record {
  sound = λ s x. inl x;
  kept = λ s x. x;
  each = λ j s above few x. absurd (omega (arith, above, few));
}

-- one rule more
pub added-more : (h : Hart) (e : Event) (k : ℕ) (first row row' : List ℕ) → AreAdded h e k first row →
    Adds h e (k + 1) row row' → AreAdded h e (k + 1) first row'
added-more h e k first row row' so more = record {
  sound = λ s x. elim ((more s).0 x) [ inl y ↦ so.sound s y | inr o ↦ inr (k + 1, o) ];
  kept = λ s x. (more s).1 (inl (so.kept s x));
  each = search (cases_lt, rules);
}

-- all rules
pub enough-added : {h : Hart} {e : Event} (f : Fits h e) (overlapping reads first row : List ℕ) →
    IsLeadingRow h e 1 overlapping → IsLeadingRow h e 2 reads →
    ((s : ℕ) → has_bit first s ≡ (has_bit overlapping s || has_bit reads s)) → AreAdded h e 13 first row →
    IsEnough h e row
enough-added {h} {e} f overlapping reads first row overlaps differs joined added = record {
  sound = sound;
  enough = enough;
}
  where
    sound : (s : ℕ) → Has row s → IsCandidate h e s
    sound s x = elim (added.sound s x) [
      | inl y ↦ elim (or_cases (has_bit overlapping s) (has_bit reads s) (sym (joined s) ∙ y))
          [ inl z ↦ (1, overlaps.sound s z) | inr z ↦ (2, differs.sound s z) ]
      | inr y ↦ y
    ]

    from_one : (s : ℕ) → Has overlapping s → Has row s
    from_one s x = added.kept s (joined s ∙ or_left (has_bit overlapping s) (has_bit reads s) x)

    from_two : (s : ℕ) → Has reads s → Has row s
    from_two s x = added.kept s (joined s ∙ or_right (has_bit overlapping s) (has_bit reads s) x)

    grown : (some : List ℕ) → ((s : ℕ) → Has some s → Has row s) → (a : Event) → IsGenerated h some a →
        IsGenerated h row a
    grown some within a g = record { c = g.c; of_hart = g.of_hart; leads = g.leads; has = within g.c.id.seq g.has }

    enough : (k : ℕ) (a : Event) → Rule h.model (followed h e) k a e → IsGenerated h row a
    enough k a r = go (cases_eq k 1) (cases_eq k 2)
      where
        above : 0 < k
        above = Condition-above h.model (followed h e) a e k r.condition

        below : k < 14
        below = Condition-number h.model (followed h e) a e k r.condition

        ca : Contains h.events a
        ca = rule-old f k a r

        go : (k ≡ 1) ⊎ (k ≡ 1 → ⊥) → (k ≡ 2) ⊎ (k ≡ 2 → ⊥) → IsGenerated h row a
        go (inl one) _ = grown overlapping from_one a
            (overlaps.enough a (subst (λ (j : ℕ). Rule h.model (followed h e) j a e) one r))
        go (inr other) (inl two) = grown reads from_two a
            (differs.enough a (subst (λ (j : ℕ). Rule h.model (followed h e) j a e) two r))
        go (inr other) (inr later) = record {
          c = a;
          of_hart = ca;
          leads = inl refl;
          has = added.each k a.id.seq (omega (arith, other, later, above)) (omega (arith, below))
              (record { a = a; of_hart = ca; at = refl; rule = r });
        }

-- a candidate has a row, and stands in it
pub candidates-own : {h : Hart} {e : Event} (f : Fits h e) (rows : List (List ℕ)) (all : List ℕ) → RowsMean h rows →
    length rows ≡ length h.events → IsEnough h e all → (b : ℕ) → Has all b → (b < length rows) × RowHas rows b b
candidates-own {h} {e} f rows all mean count enough b x =
    let o = (enough.sound b x).1 in
    let low = f.known.below o.a o.of_hart in
    let at = o.at in
    (omega arith, subst (λ (n : ℕ). RowHas rows n n) o.at (row_own h rows o.a mean o.of_hart o.rule.from_memory))
