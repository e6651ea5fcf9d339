-- Digits of a base, one at a time.
use Rattle.std.proofs.Common.{◌≡◌, ℕ, ◌+◌, ◌*◌, ◌<◌, ◌≤◌, List, [], ◌∷◌, length, get_or, drop, true}
use Rattle.std.proofs.Common.{add-one, refl, sym, ap, ◌∙◌, arith}
use Rattle.std.proofs.Math.Seq.{drop-cons}
use Rattle.std.proofs.Math.ListN.{drop_of_length-le}
use Rattle.std.proofs.lemmas.Bool.{lt-ltb}
use Rattle.std.specs.Char.{digit_value}
use Rattle.std.specs.Str.Parse.{digits_value, digits_value_after}
use Rattle.rv_log.specs.Numbers.{all_digits}

-- what the digits so far say, and whether those that are left are digits
pub record SaysSo (radix : ℕ) (text : List ℕ) (i value : ℕ) : Type 0 where
  pub value_is : digits_value_after radix value (drop i text) ≡ digits_value radix text
  pub digits : all_digits radix (drop i text) ≡ all_digits radix text

-- the text at a byte of it
at-byte : (text : List ℕ) (i : ℕ) → i < length text → drop i text ≡ get_or text i 0 ∷ drop (i + 1) text
at-byte text i low = drop-cons text i 0 low ∙ ap (λ (j : ℕ). get_or text i 0 ∷ drop j text) (sym (add-one i))

-- one digit more
pub digit-more : (radix : ℕ) (text : List ℕ) (i value : ℕ) → SaysSo radix text i value → i < length text →
    digit_value (get_or text i 0) < radix → SaysSo radix text (i + 1) (value * radix + digit_value (get_or text i 0))
digit-more radix text i value so low digit =
    let b : ℕ = get_or text i 0 in
    record {
      value_is = ap (λ (l : List ℕ). digits_value_after radix value l) (sym (at-byte text i low)) ∙ so.value_is;
      digits = good ∙ so.digits;
    }
  where
    good : all_digits radix (drop (i + 1) text) ≡ all_digits radix (drop i text)
    good = rw (at-byte text i low, lt-ltb (digit_value (get_or text i 0)) radix digit) refl

-- more digits say no less
no-less : (radix n : ℕ) (digits : List ℕ) → 1 ≤ radix → n ≤ digits_value_after radix n digits
no-less radix n [] some = omega arith
no-less radix n (d ∷ ds) some =
    let more = no-less radix (n * radix + digit_value d) ds some in
    let grown : n ≤ n * radix = times n radix some in
    omega (more, grown, arith)
  where
    times : (m r : ℕ) → 1 ≤ r → m ≤ m * r
    times m r one = grind (arith, one)

-- so a digit that does not fit leaves a number that does not
pub no-fit : (radix : ℕ) (text : List ℕ) (i value limit : ℕ) → SaysSo radix text i value → i < length text →
    1 ≤ radix → limit ≤ value * radix + digit_value (get_or text i 0) → limit ≤ digits_value radix text
no-fit radix text i value limit so low some large =
    let b : ℕ = get_or text i 0 in
    let more = no-less radix (value * radix + digit_value b) (drop (i + 1) text) some in
    let is : digits_value_after radix (value * radix + digit_value b) (drop (i + 1) text) ≡ digits_value radix text =
    ap (λ (l : List ℕ). digits_value_after radix value l) (sym (at-byte text i low)) ∙ so.value_is in
    omega (large, more, is, arith)

-- the end of the text
pub digits-end : (radix : ℕ) (text : List ℕ) (i value : ℕ) → SaysSo radix text i value → length text ≤ i →
    (all_digits radix text ≡ true) × (value ≡ digits_value radix text)
digits-end radix text i value so long =
    let none : drop i text ≡ [] = drop_of_length-le text long in (
      sym so.digits ∙ ap (all_digits radix) none,
      ap (λ (l : List ℕ). digits_value_after radix value l) (sym none) ∙ so.value_is,
    )
