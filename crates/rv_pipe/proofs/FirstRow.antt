-- The end of the first row among bytes.
use Rattle.rv_pipe.proofs.Scanned.{not-feed}
use Rattle.rv_pipe.specs.Rows.{HasRow, IsRowEnd, is_line_end}
use Rattle.std.proofs.Common.{◌≡◌, ◌∙◌, ◌<◌, ◌≤◌, ◌+◌, ◌-◌, ℕ, ◌==◌, Bool, List, None, Some, ap, arith}
use Rattle.std.proofs.Common.{drop, eq-eqb, eqb-true, false, get_or, inl, inr, length, length-drop}
use Rattle.std.proofs.Common.{length-take, not, refl, sym, take, true}
use Rattle.std.proofs.lemmas.Bool.{cases_lt, false≢true}
use Rattle.std.proofs.lemmas.Grind.{common_steps}
use Rattle.std.proofs.lemmas.List.{get_or-drop, get_or-take, take_all}
use Rattle.std.proofs.lemmas.List.Quantifiers.{position-Some}
use Rattle.std.proofs.lemmas.List.Sums.{fails_before_first}
use Rattle.std.specs.List.{position, position_or_len}

-- where no element passes, each fails
none-passes : (p : ℕ → Bool) (xs : List ℕ) → position p xs ≡ None → (i : ℕ) → i < length xs →
    p (get_or xs i 0) ≡ false
none-passes p xs none i low =
    let whole : length xs ≤ position_or_len p xs = grind (arith, common_steps) in
    fails_before_first p xs i 0 (omega (arith, whole, low))

-- a row of a beginning is one of the whole, and ends there
shorter : (bytes : List ℕ) (n : ℕ) → HasRow (take n bytes) → (row : HasRow bytes) × (row.last < n)
shorter bytes n row =
    let order : row.first < row.last = row.order in
    let within : row.last < length (take n bytes) = row.within in
    let long = length-take n bytes in (
      record {
        first = row.first;
        last = row.last;
        order = row.order;
        within = omega (arith, within, long);
        begun = ap is_line_end (sym (get_or-take n bytes row.first 0 (omega (arith, order, within, long)))) ∙ row.begun;
        ended = sym (get_or-take n bytes row.last 0 (omega (arith, within, long))) ∙ row.ended;
      },
      omega (arith, within, long),
    )

-- a test that is turned passes where it fails
turned : (b : Bool) → not b ≡ false → b ≡ true
turned true is = refl
turned false is = absurd (false≢true (sym is))

-- and it fails where that passes
failed : (b : Bool) → not b ≡ true → b ≡ false
failed true is = absurd (false≢true is)
failed false is = refl

-- bytes of which each ends a line have no row
pub all-ends : (bytes : List ℕ) → position (λ byte. not (is_line_end byte)) bytes ≡ None →
    IsRowEnd bytes (length bytes)
all-ends bytes none = record {
  within = omega arith;
  least = λ fewer low row.
      let more = shorter bytes fewer row in
      let order : more.0.first < more.0.last = more.0.order in
      let within : more.0.last < length bytes = more.0.within in
      absurd (false≢true (sym more.0.begun ∙ turned (is_line_end (get_or bytes more.0.first 0))
      (none-passes (λ byte. not (is_line_end byte)) bytes none more.0.first (omega (arith, order, within)))));
  whole = inl refl;
}

module _ (bytes : List ℕ) (text : ℕ) (is : position (λ byte. not (is_line_end byte)) bytes ≡ Some text) where
  -- what stands from there on, to the end
  pub rest-is : take (length bytes - text) (drop text bytes) ≡ drop text bytes
  rest-is = take_all (length bytes - text) (drop text bytes) (omega (arith, length-drop text bytes))

  -- no row begins before the first byte that ends no line
  late : (row : HasRow bytes) → text ≤ row.first
  late row = elim (cases_lt row.first text) [
    | inl before ↦ absurd (false≢true (sym row.begun ∙ turned (is_line_end (get_or bytes row.first 0))
        ((position-Some (λ byte. not (is_line_end byte)) bytes text 0 is).2 row.first before)))
    | inr behind ↦ behind
  ]

  -- the last byte of a row, counted from there
  feed-at : (row : HasRow bytes) → get_or (drop text bytes) (row.last - text) 0 ≡ 10
  feed-at row =
      let low : text ≤ row.first = late row in
      let order : row.first < row.last = row.order in
      get_or-drop text bytes (row.last - text) 0
      ∙ ap (λ i. get_or bytes i 0) (omega (arith, low, order)) ∙ row.ended

  -- without a line feed behind it there is no row
  pub no-feed : position (λ byte. byte == 10) (drop text bytes) ≡ None → IsRowEnd bytes (length bytes)
  no-feed none = record {
    within = omega arith;
    least = λ fewer low row.
        let more = (shorter bytes fewer row).0 in
        let late : text ≤ more.first = late more in
        let order : more.first < more.last = more.order in
        let within : more.last < length bytes = more.within in
        absurd (false≢true (sym (none-passes (λ byte. byte == 10) (drop text bytes) none (more.last - text)
        (omega (arith, length-drop text bytes, late, order, within)))
        ∙ eq-eqb _ 10 (feed-at more)));
    whole = inl refl;
  }

  -- the first line feed behind it ends the first row
  pub to-feed : (feed : ℕ) → position (λ byte. byte == 10) (drop text bytes) ≡ Some feed →
      IsRowEnd bytes (text + feed + 1)
  to-feed feed found = record {
    within = omega (arith, low);
    least = λ fewer less row.
        let both = shorter bytes fewer row in
        let more = both.0 in
        let late : text ≤ more.first = late more in
        let order : more.first < more.last = more.order in
        let soon : more.last < fewer = both.1 in
        absurd (false≢true (sym (end.2 (more.last - text) (omega (arith, late, order, soon, less)))
        ∙ eq-eqb _ 10 (feed-at more)));
    whole = inr record {
      first = text;
      last = text + feed;
      order = omega (arith, behind);
      within = omega (arith, length-take (text + feed + 1) bytes, low);
      begun = ap is_line_end (get_or-take (text + feed + 1) bytes text 0 (omega arith)) ∙ begun;
      ended = get_or-take (text + feed + 1) bytes (text + feed) 0 (omega arith) ∙ here;
    };
  }
    where
      end : (feed < length (drop text bytes)) × (get_or (drop text bytes) feed 0 == 10 ≡ true)
          × ((k : ℕ) → k < feed → get_or (drop text bytes) k 0 == 10 ≡ false)
      end = position-Some (λ byte. byte == 10) (drop text bytes) feed 0 found

      low : text + feed < length bytes
      low = omega (arith, length-drop text bytes, end.0)

      here : get_or bytes (text + feed) 0 ≡ 10
      here = sym (get_or-drop text bytes feed 0) ∙ eqb-true _ 10 end.1

      begun : is_line_end (get_or bytes text 0) ≡ false
      begun = failed (is_line_end (get_or bytes text 0))
          (position-Some (λ byte. not (is_line_end byte)) bytes text 0 is).1

      behind : 0 < feed
      behind = elim (cases_lt 0 feed) [
        | inl above ↦ above
        | inr none ↦ absurd (not-feed (get_or bytes text 0) begun
            (ap (λ i. get_or bytes i 0) (omega (arith, none)) ∙ here))
      ]
