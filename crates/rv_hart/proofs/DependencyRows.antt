-- The row of the events on which an event depends, as it grows.
use Rattle.rv_hart.proofs.Common.{◌≡◌, ℕ, ◌+◌, ◌<◌, ◌||◌, ◌==◌, ◌↔◌, Bool, List, [], ◌∷◌, ◌++◌, length, get_or, take}
use Rattle.rv_hart.proofs.Common.{Any-contains, Any-from_contains, IsTrue, ◌⊎◌, inl, inr, sym, ap, ◌∙◌}
use Rattle.rv_hart.proofs.Common.{subst, eqb-true, eq-eqb, or_cases, or_left, or_right, and_from, and_parts}
use Rattle.rv_hart.proofs.Common.{take_more, Contains-push_cases, Contains-push, Contains-append_left, Dep, DepKind}
use Rattle.rv_hart.proofs.Common.{Has, has_bit, IsNaming, NamesMemory, RowHas}
use Rattle.std.specs.Prelude.{◌&&◌, slice_index_or}

-- the row has what it had and the memory operations that a dependency of this kind names
abbrev pub AddsNamed : DepKind → List ℕ → List ℕ → List (List ℕ) → List Dep → List ℕ → List ℕ → Type 0
AddsNamed kind loads stores carried deps old row =
    (s : ℕ) → Has row s ↔ (Has old s ⊎ NamesMemory kind deps loads stores carried s)

-- what a dependency on this number names
abbrev pub Named : List ℕ → List ℕ → List (List ℕ) → ℕ → ℕ → Type 0
Named loads stores carried number s =
    ((number ≡ s) × IsTrue (has_bit loads s || has_bit stores s)) ⊎ RowHas carried number s

-- it is put in
pub one-dependency : (row mid new loads stores : List ℕ) (carried : List (List ℕ)) (number : ℕ) (either : Bool) →
    either ≡ (has_bit loads number || has_bit stores number) →
    ((s : ℕ) → has_bit mid s ≡ (has_bit row s || (either && (number == s)))) →
    ((s : ℕ) → has_bit new s ≡ (has_bit mid s || has_bit (slice_index_or carried number []) s)) →
    (s : ℕ) → Has new s ↔ (Has row s ⊎ Named loads stores carried number s)
one-dependency row mid new loads stores carried number either is inserted joined s = (to, from)
  where
    memory : ℕ → Type 0
    memory n = IsTrue (has_bit loads n || has_bit stores n)

    to : Has new s → Has row s ⊎ Named loads stores carried number s
    to h = elim (or_cases (has_bit mid s) (has_bit (slice_index_or carried number []) s) (sym (joined s) ∙ h)) [
      | inl own ↦ elim (or_cases (has_bit row s) (either && (number == s)) (sym (inserted s) ∙ own)) [
        | inl old ↦ inl old
        | inr new ↦ (
            let both = and_parts either (number == s) new in
            let at = eqb-true number s both.1 in
            inr (inl (at, subst memory at (sym is ∙ both.0))))
      ]
      | inr behind ↦ inr (inr behind)
    ]

    kept : Has mid s → Has new s
    kept h = joined s ∙ or_left (has_bit mid s) (has_bit (slice_index_or carried number []) s) h

    from : Has row s ⊎ Named loads stores carried number s → Has new s
    from (inl old) = kept (inserted s ∙ or_left (has_bit row s) (either && (number == s)) old)
    from (inr (inl (at, holds))) = kept (inserted s ∙ or_right (has_bit row s) (either && (number == s))
        (and_from either (number == s) (is ∙ subst memory (sym at) holds) (eq-eqb number s at)))
    from (inr (inr behind)) =
        joined s ∙ or_right (has_bit mid s) (has_bit (slice_index_or carried number []) s) behind

module _ (kind : DepKind) (loads stores : List ℕ) (carried : List (List ℕ)) (items : List Dep) (i : ℕ) (d : Dep)
    (low : i < length items) (is : d ≡ get_or items i d) (old row : List ℕ)
    (added : AddsNamed kind loads stores carried (take i items) old row) where
  abbrev more : List Dep
  more = take i items ++ d ∷ []

  taken : take (i + 1) items ≡ more
  taken = take_more items i d low ∙ ap (λ (x : Dep). take i items ++ x ∷ []) (sym is)

  still : (s : ℕ) → NamesMemory kind (take i items) loads stores carried s →
      NamesMemory kind more loads stores carried s
  still s any =
      let f = Any-contains (IsNaming kind loads stores carried s) (take i items) any in
      Any-from_contains (IsNaming kind loads stores carried s) more f.0
      (Contains-append_left (take i items) (d ∷ []) f.0 f.1) f.2

  before : (s : ℕ) → NamesMemory kind more loads stores carried s →
      NamesMemory kind (take i items) loads stores carried s ⊎ IsNaming kind loads stores carried s d
  before s any =
      let f = Any-contains (IsNaming kind loads stores carried s) more any in
      elim (Contains-push_cases (take i items) d f.0 f.1) [
        | inl there ↦ inl (Any-from_contains (IsNaming kind loads stores carried s) (take i items) f.0 there f.2)
        | inr last ↦ inr (subst (λ (x : Dep). IsNaming kind loads stores carried s x) (sym last) f.2)
      ]

  -- one more that is of the kind
  pub named-more : (row' : List ℕ) → d.kind ≡ kind →
      ((s : ℕ) → Has row' s ↔ (Has row s ⊎ Named loads stores carried d.seq s)) →
      AddsNamed kind loads stores carried (take (i + 1) items) old row'
  named-more row' same joined s = subst (λ (ds : List Dep). Has row' s ↔
      (Has old s ⊎ NamesMemory kind ds loads stores carried s)) (sym taken) (to, from)
    where
      to : Has row' s → Has old s ⊎ NamesMemory kind more loads stores carried s
      to h = elim ((joined s).0 h) [
        | inl was ↦ elim ((added s).0 was) [ inl o ↦ inl o | inr n ↦ inr (still s n) ]
        | inr new ↦ inr (Any-from_contains (IsNaming kind loads stores carried s) more d
            (Contains-push (take i items) d) (same, new))
      ]

      from : Has old s ⊎ NamesMemory kind more loads stores carried s → Has row' s
      from (inl o) = (joined s).1 (inl ((added s).1 (inl o)))
      from (inr any) = elim (before s any) [
        | inl n ↦ (joined s).1 (inl ((added s).1 (inr n)))
        | inr last ↦ (joined s).1 (inr last.1)
      ]

  -- one more that is of another kind
  pub named-same : (d.kind ≡ kind → ⊥) → AddsNamed kind loads stores carried (take (i + 1) items) old row
  named-same apart s = subst (λ (ds : List Dep). Has row s ↔ (Has old s ⊎ NamesMemory kind ds loads stores carried s))
      (sym taken) (to, from)
    where
      to : Has row s → Has old s ⊎ NamesMemory kind more loads stores carried s
      to h = elim ((added s).0 h) [ inl o ↦ inl o | inr n ↦ inr (still s n) ]

      from : Has old s ⊎ NamesMemory kind more loads stores carried s → Has row s
      from (inl o) = (added s).1 (inl o)
      from (inr any) = elim (before s any) [
        | inl n ↦ (added s).1 (inr n)
        | inr last ↦ absurd (apart last.0)
      ]
