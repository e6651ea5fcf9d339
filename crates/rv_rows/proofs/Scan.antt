-- The lowest number of a set from a number on, word by word.
use Rattle.std.proofs.Common.{◌≡◌, ℕ, ◌+◌, ◌-◌, ◌*◌, ◌/◌, ◌%◌, ◌^◌, ◌<◌, ◌≤◌, ◌==◌, false, List, get_or, ◌∙◌}
use Rattle.std.proofs.Common.{ap, sym, inl, inr, arith, w64, Some, subst}
use Rattle.std.proofs.lemmas.Bool.{cases_lt}
use Rattle.std.proofs.lemmas.Nat.{pow-add}
use Rattle.std.proofs.Math.Nat.{div-div-eq-div-mul, div-le_self}
use Rattle.std.proofs.lemmas.Nat.Bits.{bit_at-trailing_zeros, bit_at_above, bit_at-zero}
use Rattle.std.specs.Int.{bit_at, trailing_zeros}
use Rattle.rv_rows.specs.Bits.{has_bit, IsFirstFrom}
use Rattle.rv_rows.proofs.Words.{zero_bit}

-- a bit of a word that was shifted down
bit_shifted : (n s i : ℕ) → bit_at (n / 2 ^ s) i ≡ bit_at n (s + i)
bit_shifted n s i = ap (λ x. x % 2) (div-div-eq-div-mul n (2 ^ s) (2 ^ i) ∙ ap (λ x. n / x) (sym (pow-add 2 s i)))

-- the bit of a number is that of its word
bit_of : (words : List ℕ) (k t i : ℕ) → i ≡ k * 64 + t → t < 64 →
    has_bit words i ≡ (bit_at (get_or words k 0) t == 1)
bit_of words k t i is small =
    let word : i / 64 ≡ k = omega (arith, is, small) in
    let place : i % 64 ≡ t = omega (arith, is, small) in
    ap (λ x. bit_at (get_or words x 0) (i % 64) == 1) word ∙ ap (λ x. bit_at (get_or words k 0) x == 1) place

module _ (words : List ℕ) (k s from : ℕ) (at : from ≡ k * 64 + s) where
  abbrev rest : ℕ
  rest = get_or words k 0 / 2 ^ s

  rest_fits : get_or words k 0 < 2 ^ 64 → rest < 2 ^ 64
  rest_fits fits = omega (arith, fits, div-le_self (get_or words k 0) (2 ^ s))

  -- the lowest bit of what of a word is left behind a place is a bit of the word
  pub first_within : get_or words k 0 < 2 ^ 64 → 0 < rest →
      (s + trailing_zeros w64 rest < 64) × (bit_at (get_or words k 0) (s + trailing_zeros w64 rest) ≡ 1)
  first_within fits some =
      let z = trailing_zeros w64 rest in
      let low = rest_fits fits in
      let one : bit_at (get_or words k 0) (s + z) ≡ 1 =
      sym (bit_shifted (get_or words k 0) s z) ∙ (bit_at-trailing_zeros w64 rest some low).1 in
      let within : s + z < 64 = elim (cases_lt (s + z) 64) [
        | inl under ↦ under
        | inr over ↦ absurd (omega (arith, one, bit_at_above (get_or words k 0) 64 (s + z) fits over))
      ] in
      (within, one)

  -- it tells the lowest number of the set from there on
  pub first_here : get_or words k 0 < 2 ^ 64 → 0 < rest →
      IsFirstFrom words from (Some (from + trailing_zeros w64 rest))
  first_here fits some =
      let z = trailing_zeros w64 rest in
      let t = bit_at-trailing_zeros w64 rest some (rest_fits fits) in
      let w = first_within fits some in (
        omega arith,
        bit_of words k (s + z) (from + z) (omega (arith, at)) w.0 ∙ ap (λ x. x == 1) w.1,
        λ j over under.
            let i = j - from in
            let l : i < z = omega (arith, over, under) in
            bit_of words k (s + i) j (omega (arith, at, over)) (omega (arith, l, w.0)) ∙
            ap (λ x. x == 1) (sym (bit_shifted (get_or words k 0) s i) ∙ t.2 i l),
      )

  -- where nothing is left of the word, the set has no number up to its end
  pub none_here : rest ≡ 0 → (j : ℕ) → from ≤ j → j < (k + 1) * 64 → has_bit words j ≡ false
  none_here none j over under =
      let i = j - from in
      bit_of words k (s + i) j (omega (arith, at, over)) (omega (arith, at, over, under)) ∙
      ap (λ x. x == 1) (sym (bit_shifted (get_or words k 0) s i) ∙ ap (λ x. bit_at x i) none ∙ bit_at-zero i)

  -- nor up to another word, where those between are empty
  pub none_up_to : s < 64 → rest ≡ 0 → (end : ℕ) → ((i : ℕ) → k < i → i < end → get_or words i 0 ≡ 0) → (j : ℕ) →
      from ≤ j → j < end * 64 → has_bit words j ≡ false
  none_up_to small none end empty j over under = elim (cases_lt j ((k + 1) * 64)) [
    | inl here ↦ none_here none j over here
    | inr past ↦ zero_bit words j (empty (j / 64) (omega (arith, past)) (omega (arith, under)))
  ]

-- the lowest number of a word that is not empty
pub first_in_word : (words : List ℕ) (k : ℕ) → get_or words k 0 < 2 ^ 64 → 0 < get_or words k 0 →
    IsFirstFrom words (k * 64) (Some (k * 64 + trailing_zeros w64 (get_or words k 0)))
first_in_word words k fits some =
    let one : get_or words k 0 / 2 ^ 0 ≡ get_or words k 0 = omega arith in
    subst (λ (x : ℕ). IsFirstFrom words (k * 64) (Some (k * 64 + trailing_zeros w64 x))) one
    (first_here words k 0 (k * 64) (omega arith) fits (omega (arith, one, some)))

-- where the set has no number up to a word, the lowest of the word is the lowest
pub first_later : (words : List ℕ) (from k n : ℕ) → ((j : ℕ) → from ≤ j → j < k * 64 → has_bit words j ≡ false) →
    from ≤ k * 64 → IsFirstFrom words (k * 64) (Some n) → IsFirstFrom words from (Some n)
first_later words from k n none over first = (
  omega (arith, over, first.0),
  first.1,
  λ j high low. elim (cases_lt j (k * 64)) [
    | inl under ↦ none j high under
    | inr past ↦ first.2 j past low
  ],
)
