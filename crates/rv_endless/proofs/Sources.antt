-- All entries of a hart in a well formed log came from one source.
use Rattle.rv_book.proofs.Common.{get_or_default}
use Rattle.rv_endless.proofs.Faulty.{parts}
use Rattle.rv_endless.proofs.Forgotten.{split-at}
use Rattle.rv_event.proofs.Common.{get_or}
use Rattle.rv_event.proofs.Growing.{Any-from_contains}
use Rattle.rv_event.specs.Faults.{deps_fault, fault_if, fault_within, first_faults_within, lowest}
use Rattle.rv_event.specs.Faults.{source_fault}
use Rattle.rv_event.specs.Log.{events}
use Rattle.rv_event.specs.WellFormed.{WellFormedWithin}
use Rattle.rv_event.specs.declared.event.Entry.{Entry}
use Rattle.rv_event.specs.declared.fault.Fault.{Fault}
use Rattle.rv_event.specs.declared.fault.Fault.TheVariants.{OtherSource}
use Rattle.std.proofs.Common.{ℕ, ◌≡◌, ◌≢◌, ◌∙◌, ◌<◌, ◌+◌, ◌++◌, ◌∷◌, ◌==◌, ◌&&◌, [], Bool, Contains}
use Rattle.std.proofs.Common.{List, None, Option, Some, ap, arith, drop, eq-eqb, inl, inr, length}
use Rattle.std.proofs.Common.{not, refl, sym, take, true}
use Rattle.std.proofs.lemmas.Bool.{cases_eq, cases_lt, ne_eqb}
use Rattle.std.proofs.lemmas.List.{get_or-take, length-take}
use Rattle.std.proofs.lemmas.List.Folds.{list_any-from_Any}
use Rattle.std.proofs.lemmas.Option.{none-some}

-- where no fault holds, none of the last ones does
last-none : (xs ys : List (Option Fault)) → lowest (xs ++ ys) ≡ None → lowest ys ≡ None
last-none xs ys none = elim (parts xs ys) [
  | inl found ↦ absurd (none-some found.0 (sym none ∙ found.2))
  | inr rest ↦ sym rest.1 ∙ none
]

-- an entry without a fault came from the source of its hart's entries before it
pub source-before : (limit : ℕ) (before : List Entry) (x y : Entry) → fault_within limit before x ≡ None →
    Contains before y → y.event.id.hart ≡ x.event.id.hart → y.source ≡ x.source
source-before limit before x y none c hart = elim (cases_eq y.source x.source) [
  | inl same ↦ same
  | inr apart ↦ absurd (none-some OtherSource (sym first ∙ ap
      (λ (o : Option Fault). lowest (o ∷ deps_fault x.event ∷ [])) (other apart)))
]
  where
    first : lowest (source_fault before x ∷ deps_fault x.event ∷ []) ≡ None
    first = last-none (first_faults_within limit (events before) x.event)
        (source_fault before x ∷ deps_fault x.event ∷ []) none

    other : y.source ≢ x.source → source_fault before x ≡ Some OtherSource
    other apart = ap (λ (b : Bool). fault_if b OtherSource) (list_any-from_Any
        (λ z. (z.event.id.hart == x.event.id.hart) && not (z.source == x.source)) before
        (Any-from_contains (λ z. ((z.event.id.hart == x.event.id.hart) && not (z.source == x.source)) ≡ true) before y c
        (rw (eq-eqb y.event.id.hart x.event.id.hart hart, ne_eqb y.source x.source apart) refl)))

module _ (limit : ℕ) (log : List Entry) (ok : WellFormedWithin limit log) where
  -- an entry that stands before another one came from its source
  earlier-source : (y z : Entry) (i j : ℕ) → i < length log → j < length log → get_or log i y ≡ y → get_or log j z ≡ z →
      i < j → y.event.id.hart ≡ z.event.id.hart → y.source ≡ z.source
  earlier-source y z i j low high at at' less hart =
      source-before limit (take j log) z y (ok (take j log) (drop (j + 1) log) z (split-at log j high z (sym at')))
      (i, omega (arith, less, high, length-take j log), get_or-take j log i y less ∙ at) hart

  -- and so did each of its hart's
  pub same-source : (y z : Entry) → Contains log y → Contains log z → y.event.id.hart ≡ z.event.id.hart →
      y.source ≡ z.source
  same-source y z (i, low, at) (j, high, at') hart = elim (cases_lt i j) [
    | inl less ↦ earlier-source y z i j low high at at' less hart
    | inr least ↦ elim (cases_eq i j) [
      | inl same ↦ ap (λ (e : Entry). e.source) (sym at ∙ get_or_default log i y z low ∙ ap
          (λ (k : ℕ). get_or log k z) same ∙ at')
      | inr apart ↦ sym (earlier-source z y j i high low at' at (omega (arith, least, apart)) (sym hart))
    ]
  ]
