-- What is known of the events that were forgotten, with one more.
use Rattle.std.proofs.Common.{ℕ, ◌≡◌, ◌≢◌, ◌∙◌, ◌||◌, ◌==◌, ◌%◌, ◌/◌, ◌+◌, ◌++◌, ◌∷◌, ◌<◌, ◌≤◌, ◌↔◌}
use Rattle.std.proofs.Common.{◌⊎◌, [], Bool}
use Rattle.std.proofs.Common.{Contains, IsTrue, List, None, Option, Some, ap, arith, false}
use Rattle.std.proofs.Common.{if◌then◌else◌, inl, inr}
use Rattle.std.proofs.Common.{length, refl, slice_set, subst, sym, true}
use Rattle.std.proofs.Math.Bool.{or-true}
use Rattle.std.proofs.lemmas.Bool.{cases_eq, eq-eqb, eqb-true, false≢true, ne_eqb}
use Rattle.std.proofs.lemmas.Grind.{common_steps, get_or-set_at}
use Rattle.std.proofs.lemmas.List.{get_or-set_other, length-set}
use Rattle.std.proofs.lemmas.List.Elements.{Contains-append_left, Contains-append_right}
use Rattle.std.proofs.lemmas.List.Elements.{Contains-push_cases}
use Rattle.std.specs.Prelude.{slice_index_or}
use Rattle.rv_rows.specs.Bits.{has_bit}
use Rattle.rv_event.proofs.Names.{Contains-here}
use Rattle.rv_event.specs.Faults.{can_be_named}
use Rattle.rv_event.specs.Operations.{IsStore}
use Rattle.rv_event.specs.declared.event.Entry.{Entry}
use Rattle.rv_event.specs.declared.event.Id.{Id}
use Rattle.rv_settle.proofs.Faulted.{same-bool}
use Rattle.rv_past.specs.Facts.{AreFactsBy, Follows, IsSourceOf, IsWrittenBy, has_number, is_named}
use Rattle.rv_past.specs.Facts.{is_written, last_of}

-- what is known of some entries goes by what the tables answer
pub facts-same : (gone : List Entry) (sources : List (Option ℕ)) (values values' : ℕ × ℕ → Option (List ℕ))
    (through through' : ℕ → Option ℕ) (above above' : ℕ × ℕ → Bool) →
    ((h k : ℕ) → values' (h, k) ≡ values (h, k)) → ((w : ℕ) → through' w ≡ through w) →
    ((w v : ℕ) → above' (w, v) ≡ above (w, v)) →
    AreFactsBy gone sources values (is_written through above) →
    AreFactsBy gone sources values' (is_written through' above')
facts-same gone sources values values' through through' above above' same-values same-words same-versions are = record {
  harts = are.harts;
  source = are.source;
  value = λ y c. ap (λ (o : Option (List ℕ)). has_number o (y.event.id.seq % 4096))
      (same-values y.event.id.hart (y.event.id.seq / 4096)) ∙ are.value y c;
  none_else = λ i none. ap (λ (o : Option (List ℕ)). has_number o (i.seq % 4096)) (same-values i.hart (i.seq / 4096))
      ∙ are.none_else i none;
  version = λ w v. (
    (λ is. (are.version w v).0 (sym (written w v) ∙ is)),
    (λ by. written w v ∙ (are.version w v).1 by),
  );
}
  where
    written : (w v : ℕ) → is_written through' above' w v ≡ is_written through above w v
    written w v = rw (same-words w, same-versions w v) refl

module _ (old new : ℕ × ℕ → Option (List ℕ)) (id : Id) (row : List ℕ)
    (here : new (id.hart, id.seq / 4096) ≡ Some row)
    (bits : (j : ℕ) → has_bit row j ≡ (has_number (old (id.hart, id.seq / 4096)) j || (id.seq % 4096 == j)))
    (apart : (h k : ℕ) → ((id.hart ≡ h) × (id.seq / 4096 ≡ k) → ⊥) → new (h, k) ≡ old (h, k)) where
  -- in the block of the id
  same-block : (i : Id) → id.hart ≡ i.hart → id.seq / 4096 ≡ i.seq / 4096 →
      is_named new i ≡ (is_named old i || (id.seq % 4096 == i.seq % 4096))
  same-block i hart block =
      ap (λ (o : Option (List ℕ)). has_number o (i.seq % 4096))
      (ap new (ap (λ (h : ℕ). (h, i.seq / 4096)) (sym hart) ∙ ap (λ (k : ℕ). (id.hart, k)) (sym block)) ∙ here)
      ∙ bits (i.seq % 4096)
      ∙ ap (λ (o : Option (List ℕ)). has_number o (i.seq % 4096) || (id.seq % 4096 == i.seq % 4096))
      (ap old (ap (λ (h : ℕ). (h, id.seq / 4096)) hart ∙ ap (λ (k : ℕ). (i.hart, k)) block))

  -- in another one
  other-block : (i : Id) → ((id.hart ≡ i.hart) × (id.seq / 4096 ≡ i.seq / 4096) → ⊥) → is_named new i ≡ is_named old i
  other-block i other =
      ap (λ (o : Option (List ℕ)). has_number o (i.seq % 4096)) (apart i.hart (i.seq / 4096) other)

  -- a number with the same place in its block
  same-number : (i : Id) → id.hart ≡ i.hart → id.seq / 4096 ≡ i.seq / 4096 → id.seq % 4096 ≡ i.seq % 4096 → i ≡ id
  same-number i hart block place = let seq : i.seq ≡ id.seq = omega (arith, block, place) in grind (arith, hart, seq)

  -- a number of the block is noted where it was, or where it is the id's
  either : (i : Id) → id.hart ≡ i.hart → id.seq / 4096 ≡ i.seq / 4096 → (b : Bool) → is_named old i ≡ b →
      (b || (id.seq % 4096 == i.seq % 4096)) ≡ true → IsTrue (is_named old i) ⊎ (i ≡ id)
  either i hart block true is told = inl is
  either i hart block false is told =
      inr (same-number i hart block (eqb-true (id.seq % 4096) (i.seq % 4096) told))

  -- so in the same block
  noted-here : (i : Id) → id.hart ≡ i.hart → id.seq / 4096 ≡ i.seq / 4096 →
      IsTrue (is_named new i) ↔ (IsTrue (is_named old i) ⊎ (i ≡ id))
  noted-here i hart block = (
    (λ is. either i hart block (is_named old i) refl (sym (same-block i hart block) ∙ is)),
    (λ is. elim is [
      | inl before ↦ same-block i hart block ∙ (rw before refl)
      | inr same ↦ (let place : id.seq % 4096 ≡ i.seq % 4096 = ap (λ (j : Id). j.seq % 4096) (sym same) in
          same-block i hart block ∙ rw (eq-eqb (id.seq % 4096) (i.seq % 4096) place) (or-true (is_named old i)))
    ]),
  )

  -- and in another one
  noted-apart : (i : Id) → ((id.hart ≡ i.hart) × (id.seq / 4096 ≡ i.seq / 4096) → ⊥) →
      IsTrue (is_named new i) ↔ (IsTrue (is_named old i) ⊎ (i ≡ id))
  noted-apart i other = (
    (λ is. inl (sym (other-block i other) ∙ is)),
    (λ is. elim is [
      | inl before ↦ other-block i other ∙ before
      | inr same ↦ absurd (other (ap (λ (j : Id). j.hart) (sym same), ap (λ (j : Id). j.seq / 4096) (sym same)))
    ]),
  )

  -- the numbers that are noted are those of before, and this one
  pub noted : (i : Id) → IsTrue (is_named new i) ↔ (IsTrue (is_named old i) ⊎ (i ≡ id))
  noted i = elim (cases_eq id.hart i.hart) [
    | inr other ↦ noted-apart i (λ same. other same.0)
    | inl hart ↦ elim (cases_eq (id.seq / 4096) (i.seq / 4096)) [
      | inr other ↦ noted-apart i (λ same. other same.1)
      | inl block ↦ noted-here i hart block
    ]
  ]

module _ (old between new : ℕ × ℕ → Bool) (word version last : ℕ) (least : version ≤ last)
    (before : (w v : ℕ) → IsTrue (old (w, v))
    ↔ (IsTrue (between (w, v)) ⊎ ((w ≡ word) × (version < v) × (v ≤ last))))
    (there : IsTrue (between (word, last + 1)))
    (apart : (w v : ℕ) → ((word ≡ w) × (last + 1 ≡ v) → ⊥) → new (w, v) ≡ between (w, v)) where
  abbrev IsNext : ℕ → ℕ → Type 0
  IsNext w v = (word ≡ w) × (last + 1 ≡ v)

  next-or-not : (w v : ℕ) → IsNext w v ⊎ (IsNext w v → ⊥)
  next-or-not w v = elim (cases_eq word w) [
    | inr other ↦ inr (λ is. other is.0)
    | inl same ↦ elim (cases_eq (last + 1) v) [
      | inr other ↦ inr (λ is. other is.1)
      | inl next ↦ inl (same, next)
    ]
  ]

  -- what was taken out or stays is what was there, with the next version taken out too
  pub pulled : (w v : ℕ) → IsTrue (old (w, v)) ↔ (IsTrue (new (w, v)) ⊎ ((w ≡ word) × (version < v) × (v ≤ last + 1)))
  pulled w v = elim (next-or-not w v) [
    | inl next ↦ (
        let w-is = next.0 in let v-is = next.1 in (
          (λ _. inr (sym w-is, omega (arith, least, v-is), omega (arith, v-is))),
          (λ _. (before w v).1 (inl
              (subst (λ (k : ℕ × ℕ). IsTrue (between k)) (ap (λ (h : ℕ). (h, last + 1)) w-is ∙ ap
              (λ (k : ℕ). (w, k)) v-is) there))),
        ))
    | inr not ↦ (
      (λ is. elim ((before w v).0 is) [
        | inl stays ↦ inl (apart w v not ∙ stays)
        | inr taken ↦ (let top = taken.2 in inr (taken.0, taken.1, omega (arith, top)))
      ]),
      (λ is. (before w v).1 (elim is [
        | inl stays ↦ inl (sym (apart w v not) ∙ stays)
        | inr taken ↦ inr (taken.0, taken.1, below w v not taken.0 taken.2)
      ])),
    )
  ]
    where
      below : (w v : ℕ) → (IsNext w v → ⊥) → w ≡ word → v ≤ last + 1 → v ≤ last
      below w v not same top = elim (cases_eq (last + 1) v) [
        | inl next ↦ absurd (not (sym same, next))
        | inr other ↦ omega (arith, top, other)
      ]

-- a version was written where it is not above the last, or is one of those above
written-cases : (through : ℕ → Option ℕ) (above : ℕ × ℕ → Bool) (w v : ℕ) → IsTrue (is_written through above w v)
    ↔ (((0 < v) × (v ≤ last_of (through w))) ⊎ IsTrue (above (w, v)))
written-cases through above w v = ((λ is. grind (arith, common_steps, is)), (λ is. grind (arith, common_steps, is)))

module _ (word version : ℕ) where
  same-or-not : (w v : ℕ) → ((w ≡ word) × (v ≡ version)) ⊎ ((word ≡ w) × (version ≡ v) → ⊥)
  same-or-not w v = elim (cases_eq w word) [
    | inr other ↦ inr (λ is. other (sym is.0))
    | inl same ↦ elim (cases_eq v version) [
      | inr other ↦ inr (λ is. other (sym is.1))
      | inl is ↦ inl (same, is)
    ]
  ]

  -- a version is noted among those above
  pub noted-above : (through : ℕ → Option ℕ) (above new : ℕ × ℕ → Bool) → new (word, version) ≡ true →
      ((w v : ℕ) → ((word ≡ w) × (version ≡ v) → ⊥) → new (w, v) ≡ above (w, v)) → (w v : ℕ) →
      IsTrue (is_written through new w v) ↔ (IsTrue (is_written through above w v) ⊎ ((w ≡ word) × (v ≡ version)))
  noted-above through above new here apart w v = (to, from)
    where
      to : IsTrue (is_written through new w v) → IsTrue (is_written through above w v) ⊎ ((w ≡ word) × (v ≡ version))
      to is = elim ((written-cases through new w v).0 is) [
        | inl below ↦ inl ((written-cases through above w v).1 (inl below))
        | inr listed ↦ elim (same-or-not w v) [
          | inl same ↦ inr same
          | inr not ↦ inl ((written-cases through above w v).1 (inr (sym (apart w v not) ∙ listed)))
        ]
      ]

      at : w ≡ word → v ≡ version → new (w, v) ≡ true
      at same is = ap new (ap (λ (h : ℕ). (h, v)) same ∙ ap (λ (k : ℕ). (word, k)) is) ∙ here

      from : IsTrue (is_written through above w v) ⊎ ((w ≡ word) × (v ≡ version)) → IsTrue (is_written through new w v)
      from (inr same) = (written-cases through new w v).1 (inr (at same.0 same.1))
      from (inl is) = elim (same-or-not w v) [
        | inl same ↦ (written-cases through new w v).1 (inr (at same.0 same.1))
        | inr not ↦ (written-cases through new w v).1 (elim ((written-cases through above w v).0 is) [
          | inl below ↦ inl below
          | inr listed ↦ inr (apart w v not ∙ listed)
        ])
      ]

module _ (gone : List Entry) (x : Entry) (follows : Follows gone x) where
  abbrev more : List Entry
  more = gone ++ x ∷ []

  old-entry : (y : Entry) → Contains gone y → Contains more y
  old-entry y c = Contains-append_left gone (x ∷ []) y c

  new-entry : Contains more x
  new-entry = Contains-append_right gone (x ∷ []) x (Contains-here x [] x refl)

  -- the sources, with that of the entry
  source-more : (old new : List (Option ℕ)) →
      ((hart : ℕ) → slice_index_or new hart None
      ≡ (if hart == x.event.id.hart then Some x.source else slice_index_or old hart None)) →
      ((hart : ℕ) → IsSourceOf gone hart (slice_index_or old hart None)) → (hart : ℕ) →
      IsSourceOf more hart (slice_index_or new hart None)
  source-more old new told of hart = go (cases_eq hart x.event.id.hart)
    where
      go : (hart ≡ x.event.id.hart) ⊎ (hart ≢ x.event.id.hart) → IsSourceOf more hart (slice_index_or new hart None)
      go (inl own) =
          subst (IsSourceOf more hart)
          (sym (told hart ∙ ap (λ (b : Bool). if b then Some x.source else slice_index_or old hart None)
          (eq-eqb hart x.event.id.hart own))) (
            (x, new-entry, sym own),
            (λ y c same. elim (Contains-push_cases gone x y c) [
              | inl there ↦ follows.source y there (same ∙ own)
              | inr here ↦ ap (λ (z : Entry). z.source) (sym here)
            ]),
          )
      go (inr apart) =
          subst (IsSourceOf more hart)
          (sym (told hart ∙ ap (λ (b : Bool). if b then Some x.source else slice_index_or old hart None)
          (ne_eqb hart x.event.id.hart apart)))
          (stays (slice_index_or old hart None) (of hart))
        where
          stays : (o : Option ℕ) → IsSourceOf gone hart o → IsSourceOf more hart o
          stays (Some s) (some, all) = (
            (some.0, old-entry some.0 some.1, some.2),
            (λ y c same. elim (Contains-push_cases gone x y c) [
              | inl there ↦ all y there same
              | inr here ↦ absurd (apart (sym same ∙ ap (λ (z : Entry). z.event.id.hart) (sym here)))
            ]),
          )
          stays None none = λ y c same. elim (Contains-push_cases gone x y c) [
            | inl there ↦ none y there same
            | inr here ↦ apart (sym same ∙ ap (λ (z : Entry). z.event.id.hart) (sym here))
          ]

  module _ (old new : ℕ × ℕ → Option (List ℕ))
      (noted' : (i : Id) → IsTrue (is_named new i)
      ↔ (IsTrue (is_named old i) ⊎ ((i ≡ x.event.id) × IsTrue (can_be_named x.event.op))))
      (none : (i : Id) → ((y : Entry) → Contains gone y → y.event.id ≢ i) → is_named old i ≡ false) where
    -- a number that is another's is noted as before
    named-apart : (i : Id) → i ≢ x.event.id → is_named new i ≡ is_named old i
    named-apart i apart = same-bool (is_named new i) (is_named old i)
        (λ is. elim ((noted' i).0 is) [
          | inl before ↦ before
          | inr own ↦ absurd (apart own.0)
        ])
        (λ is. (noted' i).1 (inl is))

    -- that of the entry is noted where it returned a value
    named-own : is_named new x.event.id ≡ can_be_named x.event.op
    named-own = same-bool (is_named new x.event.id) (can_be_named x.event.op)
        (λ is. elim ((noted' x.event.id).0 is) [
          | inl before ↦ absurd (false≢true (sym (none x.event.id follows.new) ∙ before))
          | inr own ↦ own.1
        ])
        (λ is. (noted' x.event.id).1 (inr (refl, is)))

    -- the numbers that returned a value, with that of the entry
    value-more : ((y : Entry) → Contains gone y → is_named old y.event.id ≡ can_be_named y.event.op) →
        (y : Entry) → Contains more y → is_named new y.event.id ≡ can_be_named y.event.op
    value-more of y c = elim (Contains-push_cases gone x y c) [
      | inl there ↦ named-apart y.event.id (follows.new y there) ∙ of y there
      | inr here ↦ subst (λ (z : Entry). is_named new z.event.id ≡ can_be_named z.event.op) here named-own
    ]

    -- and no others
    none-more : (i : Id) → ((y : Entry) → Contains more y → y.event.id ≢ i) → is_named new i ≡ false
    none-more i apart = named-apart i (λ same. apart x new-entry (sym same)) ∙ none i (λ y c. apart y (old-entry y c))

  -- the versions that were written, with that of the entry
  version-more : (old new : ℕ → ℕ → Bool) →
      ((w v : ℕ) → IsTrue (new w v)
      ↔ (IsTrue (old w v) ⊎ (IsStore x.event × (w ≡ x.event.word) × (v ≡ x.event.wrote)))) →
      ((w v : ℕ) → IsTrue (old w v) ↔ IsWrittenBy gone w v) → (w v : ℕ) →
      IsTrue (new w v) ↔ IsWrittenBy more w v
  version-more old new noted' of w v = (to, from)
    where
      to : IsTrue (new w v) → IsWrittenBy more w v
      to is = elim ((noted' w v).0 is) [
        | inl before ↦ (let by = (of w v).0 before in record {
          store = by.store;
          of_gone = old-entry by.store by.of_gone;
          is_store = by.is_store;
          word = by.word;
          wrote = by.wrote;
        })
        | inr own ↦ record {
          store = x;
          of_gone = new-entry;
          is_store = own.0;
          word = sym own.1;
          wrote = sym own.2;
        }
      ]

      from : IsWrittenBy more w v → IsTrue (new w v)
      from by = elim (Contains-push_cases gone x by.store by.of_gone) [
        | inl there ↦ (noted' w v).1 (inl ((of w v).1 (record {
          store = by.store;
          of_gone = there;
          is_store = by.is_store;
          word = by.word;
          wrote = by.wrote;
        })))
        | inr here ↦ (noted' w v).1 (inr (
          subst (λ (z : Entry). IsStore z.event) (sym here) by.is_store,
          sym (ap (λ (z : Entry). z.event.word) here ∙ by.word),
          sym (ap (λ (z : Entry). z.event.wrote) here ∙ by.wrote),
        ))
      ]

  -- what is known of the entries, with one more
  pub facts-more : (sources sources' : List (Option ℕ)) (values values' : ℕ × ℕ → Option (List ℕ))
      (written written' : ℕ → ℕ → Bool) →
      sources' ≡ slice_set sources x.event.id.hart (Some x.source) →
      ((i : Id) → IsTrue (is_named values' i)
      ↔ (IsTrue (is_named values i) ⊎ ((i ≡ x.event.id) × IsTrue (can_be_named x.event.op)))) →
      ((w v : ℕ) → IsTrue (written' w v)
      ↔ (IsTrue (written w v) ⊎ (IsStore x.event × (w ≡ x.event.word) × (v ≡ x.event.wrote)))) →
      AreFactsBy gone sources values written → AreFactsBy more sources' values' written'
  facts-more sources sources' values values' written written' set told-value told-version are = record {
    harts = ap (λ (xs : List (Option ℕ)). length xs) set
        ∙ length-set sources x.event.id.hart (Some x.source) ∙ are.harts;
    source = source-more sources sources' told-source are.source;
    value = value-more values values' told-value are.none_else are.value;
    none_else = none-more values values' told-value are.none_else;
    version = version-more written written' told-version are.version;
  }
    where
      told-source : (hart : ℕ) → slice_index_or sources' hart None
          ≡ (if hart == x.event.id.hart then Some x.source else slice_index_or sources hart None)
      told-source hart = go (cases_eq hart x.event.id.hart)
        where
          long : x.event.id.hart < length sources
          long = let below = follows.hart in let all = are.harts in omega (arith, below, all)

          go : (hart ≡ x.event.id.hart) ⊎ (hart ≢ x.event.id.hart) → slice_index_or sources' hart None
              ≡ (if hart == x.event.id.hart then Some x.source else slice_index_or sources hart None)
          go (inl own) =
              ap (λ (xs : List (Option ℕ)). slice_index_or xs hart None) set
              ∙ get_or-set_at sources x.event.id.hart hart (Some x.source) None own long
              ∙ sym (ap (λ (b : Bool). if b then Some x.source else slice_index_or sources hart None)
              (eq-eqb hart x.event.id.hart own))
          go (inr apart) =
              ap (λ (xs : List (Option ℕ)). slice_index_or xs hart None) set
              ∙ get_or-set_other sources x.event.id.hart hart (Some x.source) None apart
              ∙ sym (ap (λ (b : Bool). if b then Some x.source else slice_index_or sources hart None)
              (ne_eqb hart x.event.id.hart apart))
