-- A row among bytes is found behind the line ends that they begin with.
use Rattle.rv_pipe.specs.Rows.{HasRow, has_feed, is_line_end}
use Rattle.std.proofs.Common.{◌≡◌, ◌∙◌, ◌<◌, ◌≤◌, ◌+◌, ◌-◌, ℕ, ◌==◌, List, ap, arith, drop, eq-eqb}
use Rattle.std.proofs.Common.{eqb-true, false, get_or, inl, inr, length, length-drop, sym, true}
use Rattle.std.proofs.lemmas.Bool.{cases_lt, false≢true}
use Rattle.std.proofs.lemmas.List.{get_or-drop, get_or_default}
use Rattle.std.proofs.lemmas.List.Folds.{Any-from_list_any, list_any_at}
use Rattle.std.proofs.lemmas.List.Sums.{prefix_len_passes, prefix_len_stops}
use Rattle.std.specs.List.{prefix_len}

-- a byte that ends no line is no line feed
pub not-feed : (byte : ℕ) → is_line_end byte ≡ false → byte ≡ 10 → ⊥
not-feed byte begun feed = false≢true (sym begun ∙ ap is_line_end feed)

-- where a line feed stands behind the line ends, a row stands
pub feed-row : (bytes : List ℕ) → has_feed bytes ≡ true → HasRow bytes
feed-row bytes is =
    let n = prefix_len is_line_end bytes in
    let found = Any-from_list_any (λ byte. byte == 10) (drop n bytes) is in
    let k = found.0 in
    let low : k < length (drop n bytes) = found.2 in
    let within : n + k < length bytes = omega (arith, length-drop n bytes, low) in
    let feed : get_or bytes (n + k) 0 ≡ 10 = sym (get_or-drop n bytes k 0)
    ∙ get_or_default (drop n bytes) k 0 found.1 low ∙ found.3 ∙ eqb-true found.1 10 found.4 in
    let begun : is_line_end (get_or bytes n 0) ≡ false = prefix_len_stops is_line_end bytes 0 (omega (arith, within)) in
    let behind : 0 < k = elim (cases_lt 0 k) [
      | inl above ↦ above
      | inr none ↦ absurd (not-feed (get_or bytes n 0) begun
          (ap (λ i. get_or bytes i 0) (omega (arith, none)) ∙ feed))
    ] in
    record {
      first = n;
      last = n + k;
      order = omega (arith, behind);
      within = within;
      begun = begun;
      ended = feed;
    }

-- the line ends that the bytes begin with end before one that is none
early : (bytes : List ℕ) (i : ℕ) → is_line_end (get_or bytes i 0) ≡ false → prefix_len is_line_end bytes ≤ i
early bytes i begun = elim (cases_lt i (prefix_len is_line_end bytes)) [
  | inl before ↦ absurd (false≢true (sym begun ∙ prefix_len_passes is_line_end bytes i 0 before))
  | inr behind ↦ behind
]

-- and a row has one there
pub row-feed : (bytes : List ℕ) → HasRow bytes → has_feed bytes ≡ true
row-feed bytes row =
    let n = prefix_len is_line_end bytes in
    let low : n ≤ row.first = early bytes row.first row.begun in
    let order : row.first < row.last = row.order in
    let within : row.last < length bytes = row.within in
    let here : n + (row.last - n) ≡ row.last = omega (arith, low, order) in
    list_any_at (λ byte. byte == 10) (drop n bytes) (row.last - n) 0
    (omega (arith, length-drop n bytes, within, low, order))
    (eq-eqb _ 10 (get_or-drop n bytes (row.last - n) 0 ∙ ap (λ i. get_or bytes i 0) here ∙ row.ended))
