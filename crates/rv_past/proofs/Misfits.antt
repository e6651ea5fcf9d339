-- How an entry fits those that were forgotten.
use Rattle.std.proofs.Common.{ℕ, ◌≡◌, ◌≢◌, ◌∙◌, ◌<◌, ◌==◌, ◌||◌, Bool, Contains, IsFalse, List}
use Rattle.std.proofs.Common.{None, Option}
use Rattle.std.proofs.Common.{Some, ap, arith, false, not, refl, subst, sym, true}
use Rattle.std.proofs.lemmas.Bool.{eq-eqb, eqb-true, false≢true, lt-ltb}
use Rattle.std.proofs.lemmas.Grind.{common_steps}
use Rattle.std.proofs.lemmas.List.Folds.{Any-from_list_any, list_any-from_Any}
use Rattle.std.specs.List.{list_any}
use Rattle.std.specs.Prelude.{nat_lt, slice_index_or}
use Rattle.rv_event.proofs.Growing.{Any-contains, Any-from_contains}
use Rattle.rv_event.specs.Contexts.{is_bad_on}
use Rattle.rv_event.specs.Faults.{admits, can_be_named}
use Rattle.rv_event.specs.declared.event.Dep.{Dep}
use Rattle.rv_event.specs.declared.event.Entry.{Entry}
use Rattle.rv_event.specs.declared.event.Event.{Event}
use Rattle.rv_event.specs.declared.event.Id.{Id}
use Rattle.rv_past.specs.Facts.{AreFactsBy, DependsBadly, DependsOnValues, HasSource, IsSourceOf}
use Rattle.rv_past.specs.Facts.{differs, is_bad_in}
use Rattle.rv_past.specs.Facts.{is_named, is_other, named_by}

-- a test that stands first may stand second
swapped : (a b c : Bool) → (not c || (a || false || b)) ≡ (a || not c || b)
swapped true b true = refl
swapped true b false = refl
swapped false b true = refl
swapped false b false = refl

module _ (gone : List Entry) (sources : List (Option ℕ)) (values : ℕ × ℕ → Option (List ℕ)) (written : ℕ → ℕ → Bool)
    (are : AreFactsBy gone sources values written) where
  -- a dependency on a forgotten event is bad where the numbers tell so
  bad-same : (first : ℕ) (e : Event) (d : Dep) (y : Entry) → d.seq < first → Contains gone y →
      y.event.id ≡ named_by e d → is_bad_in values first e d ≡ is_bad_on e d (Some y.event)
  bad-same first e d y low c same =
      let named : is_named values (named_by e d) ≡ can_be_named y.event.op =
      subst (λ (i : Id). is_named values i ≡ can_be_named y.event.op) same (are.value y c) in
      rw (lt-ltb d.seq first low, named)
      (swapped (not (nat_lt d.seq e.id.seq)) (not (admits e.op d.kind)) (can_be_named y.event.op))

  -- one that is
  pub depends-badly : (first : ℕ) (e : Event) → list_any (is_bad_in values first e) e.deps ≡ true →
      DependsBadly gone first e
  depends-badly first e is =
      let found = Any-contains (λ d. is_bad_in values first e d ≡ true) e.deps
      (Any-from_list_any (is_bad_in values first e) e.deps is) in
      let bad = found.2 in
      let low : found.0.seq < first = grind (arith, common_steps, bad) in record {
        dep = found.0;
        of_event = found.1;
        before = low;
        bad = λ y c same. sym (bad-same first e found.0 y low c same) ∙ bad;
      }

  -- or none
  pub depends-well : (first : ℕ) (e : Event) → list_any (is_bad_in values first e) e.deps ≡ false →
      DependsOnValues gone first e
  depends-well first e none d y of low c same = go (is_bad_in values first e d) refl
    where
      go : (b : Bool) → is_bad_in values first e d ≡ b → IsFalse (is_bad_on e d (Some y.event))
      go false is = sym (bad-same first e d y low c same) ∙ is
      go true is = absurd (false≢true (sym none ∙ list_any-from_Any (is_bad_in values first e) e.deps
          (Any-from_contains (λ d'. is_bad_in values first e d' ≡ true) e.deps d of is)))

  -- an entry of another source, where the sources tell so
  pub other-source : (x : Entry) → is_other sources x ≡ true →
      (y : Entry) × Contains gone y × (y.event.id.hart ≡ x.event.id.hart) × (y.source ≢ x.source)
  other-source x is = go (slice_index_or sources x.event.id.hart None) refl (are.source x.event.id.hart)
    where
      go : (o : Option ℕ) → slice_index_or sources x.event.id.hart None ≡ o → IsSourceOf gone x.event.id.hart o →
          (y : Entry) × Contains gone y × (y.event.id.hart ≡ x.event.id.hart) × (y.source ≢ x.source)
      go None at none = absurd (false≢true (sym (ap (λ (o : Option ℕ). differs o x.source) at) ∙ is))
      go (Some s) at of = let y = of.0 in
          (y.0, y.1, y.2, (λ same. told (ap not (eq-eqb s x.source (sym (of.1 y.0 y.1 y.2) ∙ same)))))
        where
          told : not (s == x.source) ≡ false → ⊥
          told none = false≢true (sym none ∙ sym (ap (λ (o : Option ℕ). differs o x.source) at) ∙ is)

  -- and none where they don't
  pub same-source : (x : Entry) → is_other sources x ≡ false → HasSource gone x
  same-source x is y c hart = go (slice_index_or sources x.event.id.hart None) refl (are.source x.event.id.hart)
    where
      go : (o : Option ℕ) → slice_index_or sources x.event.id.hart None ≡ o → IsSourceOf gone x.event.id.hart o →
          y.source ≡ x.source
      go None at none = absurd (none y c hart)
      go (Some s) at of = of.1 y c hart ∙ same (s == x.source) refl
        where
          same : (b : Bool) → (s == x.source) ≡ b → s ≡ x.source
          same true equal = eqb-true s x.source equal
          same false other = absurd (false≢true (sym (sym (ap (λ (o : Option ℕ). differs o x.source) at) ∙ is)
              ∙ ap not other))
