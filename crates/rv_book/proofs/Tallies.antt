-- A tally of a log with one entry more.
use Rattle.rv_book.proofs.Common.{common_steps, rules, ◌≡◌, ◌≢◌, ℕ, ◌+◌, ◌%◌, ◌<◌, Bool, true, false, not, ◌&&◌}
use Rattle.rv_book.proofs.Common.{◌==◌, cond, List, [], ◌∷◌, ◌++◌, length, Contains, Option, Some, None, ◌⊎◌, inl}
use Rattle.rv_book.proofs.Common.{inr, sym, ap, ◌∙◌, arith, count_by, slice_index_or, slice_set, get_or}
use Rattle.rv_book.proofs.Common.{replicate, eq-eqb, eqb-true, list_any, and_parts, and_from, cases_eq, ne_eqb}
use Rattle.rv_book.proofs.Common.{false≢true, none-some, same_Some, get_or-set_same, get_or-set_other}
use Rattle.rv_book.proofs.Common.{sum_by_push, Any-from_list_any, list_any-from_Any, Contains-append_left}
use Rattle.rv_book.proofs.Common.{Any-contains, Any-from_contains, source_fault, fault_if, Entry, OtherSource}
use Rattle.rv_book.proofs.Common.{Contains-last, IsTallied}

-- a list of one value has it wherever it is read
pub even : {X : Type 0} (n : ℕ) (x : X) (k : ℕ) → get_or (replicate n x) k x ≡ x
even {X} n x k = grind (arith, common_steps)

-- the entry's hart has another source
abbrev pub is_other : Entry → Entry → Bool
is_other x y = (y.event.id.hart == x.event.id.hart) && not (y.source == x.source)

some_other : (log : List Entry) (x y : Entry) → Contains log y → is_other x y ≡ true → list_any (is_other x) log ≡ true
some_other log x y c t = list_any-from_Any (is_other x) log (Any-from_contains (λ z. is_other x z ≡ true) log y c t)

no_other : (log : List Entry) (x : Entry) → ((y : Entry) → Contains log y → is_other x y ≡ true → ⊥) →
    list_any (is_other x) log ≡ false
no_other log x none = search (Any-contains, Any-from_list_any, rules)

module _ (log : List Entry) (sources : List (Option ℕ)) (counts : List ℕ) (known : IsTallied log sources counts)
    (x : Entry) where
  -- a hart without entries has no fault of its source
  pub none_fault : slice_index_or sources x.event.id.hart None ≡ None → None ≡ source_fault log x
  none_fault none = search (no_other, eqb-true, and_parts, none-some, slice_index_or, rules)

  -- an entry of the source that its hart had has no fault of its source
  pub same_fault : (s : ℕ) → slice_index_or sources x.event.id.hart None ≡ Some s → s ≡ x.source →
      None ≡ source_fault log x
  same_fault s some is =
      search (no_other, and_parts, eqb-true, same_Some, slice_index_or, false≢true, eq-eqb, rules)

  -- an entry of another source has one
  pub other_fault : (s : ℕ) → slice_index_or sources x.event.id.hart None ≡ Some s → s ≢ x.source →
      Some OtherSource ≡ source_fault log x
  other_fault s some other =
      let y = known.seen x.event.id.hart s some in
      let differs : (y.0.source == x.source) ≡ false = ne_eqb y.0.source x.source (λ e. other (sym y.3 ∙ e)) in
      sym (ap (λ (b : Bool). fault_if b OtherSource)
      (some_other log x y.0 y.1 (and_from _ _ (eq-eqb y.0.event.id.hart x.event.id.hart y.2) (ap not differs))))

  -- the source of an entry that has no such fault is that of its hart
  own_source : source_fault log x ≡ None → (y : Entry) → Contains log y → y.event.id.hart ≡ x.event.id.hart →
      y.source ≡ x.source
  own_source sound y c at = grind (arith, common_steps)

  module _ (hart : x.event.id.hart < length sources) (within : x.source < length counts)
      (sound : source_fault log x ≡ None) (count : ℕ) (is : count ≡ slice_index_or counts x.source 0 + 1) where
    abbrev sources' : List (Option ℕ)
    sources' = slice_set sources x.event.id.hart (Some x.source)

    abbrev counts' : List ℕ
    counts' = slice_set counts x.source count

    at_same : slice_index_or sources' x.event.id.hart None ≡ Some x.source
    at_same = get_or-set_same sources x.event.id.hart (Some x.source) None hart

    at_other : (h : ℕ) → h ≢ x.event.id.hart → slice_index_or sources' h None ≡ slice_index_or sources h None
    at_other h other = get_or-set_other sources x.event.id.hart h (Some x.source) None other

    from' : (y : Entry) → Contains (log ++ x ∷ []) y → slice_index_or sources' y.event.id.hart None ≡ Some y.source
    from' y c = grind (arith, common_steps)

    seen' : (h s : ℕ) → slice_index_or sources' h None ≡ Some s → (y : Entry) × Contains (log ++ x ∷ []) y ×
        (y.event.id.hart ≡ h) × (y.source ≡ s)
    seen' h s some =
        search (
          cases_eq,
          Contains-last,
          same_Some,
          at_same,
          slice_index_or,
          at_other,
          Contains-append_left,
          rules,
        )

    count-push : (s : ℕ) → count_by (λ y. s == y.source) (log ++ x ∷ []) ≡ count_by (λ y. s == y.source) log +
        cond (s == x.source) 1 0
    count-push s = sum_by_push (λ (y : Entry). cond (s == y.source) 1 0) log x

    counted' : (s : ℕ) → s < 256 → slice_index_or counts' s 0 ≡ count_by (λ y. s == y.source) (log ++ x ∷ [])
    counted' s low = go (cases_eq s x.source)
      where
        go : (s ≡ x.source) ⊎ (s ≡ x.source → ⊥) → slice_index_or counts' s 0 ≡ count_by (λ y. s == y.source)
            (log ++ x ∷ [])
        go (inl same) =
            ap (λ (n : ℕ). slice_index_or counts' n 0) same ∙ get_or-set_same counts x.source count 0 within ∙ is
            ∙ ap (λ (n : ℕ). slice_index_or counts n 0 + 1) (sym same) ∙ ap (λ (n : ℕ). n + 1) (known.counted s low)
            ∙ sym (count-push s ∙ ap (λ (b : Bool). count_by (λ y. s == y.source) log + cond b 1 0)
            (eq-eqb s x.source same))
        go (inr other) = get_or-set_other counts x.source s count 0 other ∙ known.counted s low
            ∙ sym (count-push s ∙ ap (λ (b : Bool). count_by (λ y. s == y.source) log + cond b 1 0)
            (ne_eqb s x.source other) ∙ omega arith)

    -- the tally stays one with the entry
    pub tallied_push : IsTallied (log ++ x ∷ []) sources' counts'
    tallied_push = record { from = from'; seen = seen'; counted = counted' }

-- no entries are tallied as none
pub tallied_none : (sources : List (Option ℕ)) (counts : List ℕ) → ((h : ℕ) → slice_index_or sources h None ≡ None) →
    ((s : ℕ) → s < 256 → slice_index_or counts s 0 ≡ 0) → IsTallied [] sources counts
tallied_none sources counts none zero = grind (arith, common_steps)

-- a count of a short log fits
pub one_more :
    (log : List Entry) (sources : List (Option ℕ)) (counts : List ℕ) → IsTallied log sources counts → (x : Entry) →
    length log < 65536 → x.source < 256 →
    (slice_index_or counts x.source 0 + 1) % 4294967296 ≡ slice_index_or counts x.source 0 + 1
one_more log sources counts known x few low = grind (arith, common_steps)
