use Rattle.std.proofs.Common.{ℕ, ◌≡◌, ◌∙◌, List, Contains, None, ap, arith, get_or, inl, inr, refl}
use Rattle.std.proofs.Common.{subst, sym}
use Rattle.std.proofs.lemmas.Bool.{cases_eq}
use Rattle.std.proofs.lemmas.List.{get_or_default}
use Rattle.std.proofs.lemmas.List.Elements.{Contains-get_or}
use Rattle.rv_log.specs.declared.record.Performed.{Performed}
use Rattle.rv_memory.specs.Stores.{HasIssuer}
use Rattle.rv_values.specs.declared.issues.Issued.{Issued}
use Rattle.rv_logrows.proofs.Kept.{none-effect, some-effect}
use Rattle.rv_logrows.proofs.log.LogRows.unperformed.Goals as goal

-- what stands where there is no store
abbrev blank : Issued
blank = record { hart = 0; order = 0; word = record { address = 0; size = 0 }; wdata = None }

pub returns-then-is_none : goal.returns-then-is_none
returns-then-is_none c = λ issued performed log.
    let k : ℕ = c.issues.issued-index in
    let all : List Issued = c.all-issued-items.result.now in
    let i : Issued = get_or all k blank in (
      (
        i,
        subst (λ (l : List Issued). Contains l i) (c.all-issued-items.ensures ∙ log.memory.issues)
            (Contains-get_or all k blank c.issues-test.true),
        (refl, refl),
      ),
      none-effect performed i.hart i.order c.effect_of.result (c.effect_of.ensures performed log.memory.stores)
          c.if-is_none.ensures,
    )

pub issues-preserved : goal.issues-preserved
issues-preserved c = λ performed are k d low. elim (cases_eq k c.issues.issued-index) [
  | inl same ↦ (
      let all : List Issued = c.all-issued-items.result.now in
      let i : Issued = get_or all c.issues.issued-index blank in
      let found = some-effect performed i.hart i.order c.effect_of.result (c.effect_of.ensures performed are)
      c.if-is_none.ensures in
      subst (λ (j : Issued). (p : Performed) × Contains performed p × HasIssuer j.hart j.order p)
      (get_or_default all c.issues.issued-index blank d c.issues-test.true ∙
      ap (λ (n : ℕ). get_or all n d) (sym same)) found)
  | inr other ↦ c.issues.invariant performed are k d (omega (low, other, arith))
]

pub returns : goal.returns
returns c = λ issued performed log i ci.
    let all : c.all-issued-items.result.now ≡ issued = c.all-issued-items.ensures ∙ log.memory.issues in
    let mine = subst (λ (l : List Issued). Contains l i) (sym all) ci in
    let low = mine.1 in
    let past = c.issues-test.false in
    subst (λ (j : Issued). (p : Performed) × Contains performed p × HasIssuer j.hart j.order p) mine.2
    (c.issues.invariant performed log.memory.stores mine.0 i (omega (low, past, arith)))
