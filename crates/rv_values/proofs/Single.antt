-- The stores whose instructions retired, as they grow.
use Rattle.std.proofs.Common.{ℕ, ◌≡◌, ◌∙◌, ◌++◌, ◌∷◌, ◌&&◌, [], List, Contains, Option, Some, None, Bool}
use Rattle.std.proofs.Common.{ap, arith, get_or, inl, inr, length, nat_eq, refl, subst, sym, true, false}
use Rattle.std.proofs.lemmas.Bool.{cases_eq, false≢true, ne_eqb}
use Rattle.std.proofs.lemmas.List.{get_or_append_left, get_or_push, length_push}
use Rattle.std.proofs.lemmas.List.Elements.{Contains-get_or, Contains-push_cases}
use Rattle.std.proofs.lemmas.List.Quantifiers.{all_pairs_push}
use Rattle.std.specs.Option.{is_some}
use Rattle.rv_memory.specs.Stores.{same_issuer}
use Rattle.rv_values.specs.Issues.{AreIssues, IsIssuedBy, IsNew, IsOf, IsPlace}
use Rattle.rv_values.specs.declared.issues.Issued.{Issued}

-- an instruction that has no store
pub none-issued : (issued : List Issued) (hart order : ℕ) (o : Option Issued) → IsIssuedBy issued hart order o →
    is_some o ≡ false → (i : Issued) → Contains issued i → IsOf hart order i → ⊥
none-issued issued hart order (Some i) is none = absurd (false≢true (sym none))
none-issued issued hart order None is none = is

-- and one that has
pub some-issued : (issued : List Issued) (hart order : ℕ) (o : Option Issued) → IsIssuedBy issued hart order o →
    is_some o ≡ true → (i : Issued) × Contains issued i × IsOf hart order i
some-issued issued hart order (Some i) is some = (i, is.0, is.1)
some-issued issued hart order None is some = absurd (false≢true some)

-- pairs that differ are other keys
pub key-apart : (a b c d : ℕ) → ((a ≡ c) × (b ≡ d) → ⊥) → same_issuer (a, b) (c, d) ≡ false
key-apart a b c d apart = elim (cases_eq a c) [
  | inl first ↦ elim (cases_eq b d) [
    | inl second ↦ absurd (apart (first, second))
    | inr second ↦ ap (λ (t : Bool). nat_eq a c && t) (ne_eqb b d second) ∙ and-false (nat_eq a c)
  ]
  | inr first ↦ ap (λ (t : Bool). t && nat_eq b d) (ne_eqb a c first)
]
  where
    and-false : (t : Bool) → (t && false) ≡ false
    and-false true = refl
    and-false false = refl

-- one store more
module _ (place_of new_place : ℕ × ℕ → Option ℕ) (issued : List Issued) (are : AreIssues place_of issued)
    (new : Issued) (is-new : IsNew issued new)
    (here : new_place (new.hart, new.order) ≡ Some (length issued))
    (others : (key : ℕ × ℕ) → same_issuer (new.hart, new.order) key ≡ false → new_place key ≡ place_of key) where
  abbrev grown : List Issued
  grown = issued ++ new ∷ []

  -- the place of another instruction's store stays
  still : (hart order : ℕ) → (IsOf hart order new → ⊥) → (o : Option ℕ) → IsPlace issued hart order o →
      IsPlace grown hart order o
  still hart order apart (Some k) is =
      let low = is.0 in let long = length_push issued new in (
        omega (low, long, arith),
        λ d. subst (IsOf hart order) (sym (get_or_append_left issued (new ∷ []) d k low)) (is.1 d),
      )
  still hart order apart None is = λ i ci of. elim (Contains-push_cases issued new i ci) [
    | inl old ↦ is i old of
    | inr same ↦ apart (subst (IsOf hart order) (sym same) of)
  ]

  -- and that of the new one is behind the others
  own : (hart order : ℕ) → IsOf hart order new → IsPlace grown hart order (new_place (hart, order))
  own hart order of =
      let long = length_push issued new in
      subst (IsPlace grown hart order) (sym (ap (λ (h : ℕ). new_place (h, order)) (sym of.0) ∙
      ap (λ (o : ℕ). new_place (new.hart, o)) (sym of.1) ∙ here)) (
        omega (long, arith),
        λ d. subst (IsOf hart order) (sym (get_or_push issued new d (length issued) refl)) of,
      )

  placed : (hart order : ℕ) → IsPlace grown hart order (new_place (hart, order))
  placed hart order = elim (cases_eq new.hart hart) [
    | inl hart-same ↦ elim (cases_eq new.order order) [
      | inl order-same ↦ own hart order (hart-same, order-same)
      | inr order-apart ↦ other (λ of. order-apart of.1)
    ]
    | inr hart-apart ↦ other (λ of. hart-apart of.0)
  ]
    where
      other : (IsOf hart order new → ⊥) → IsPlace grown hart order (new_place (hart, order))
      other apart = subst (IsPlace grown hart order)
          (sym (others (hart, order) (key-apart new.hart new.order hart order apart)))
          (still hart order apart (place_of (hart, order)) (are.placed hart order))

  pub grown-issues : AreIssues new_place grown
  grown-issues = record {
    placed = placed;
    single = all_pairs_push (λ i j. IsOf j.hart j.order i → ⊥) issued new are.single
        (λ k d low. is-new (get_or issued k d) (Contains-get_or issued k d low));
  }
