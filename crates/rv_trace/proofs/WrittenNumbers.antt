-- Numbers as they are printed, and as fields that are numbers are read.
use Rattle.std.proofs.Common.{◌≡◌, ◌^◌, ◌<◌, ◌≤◌, ◌&&◌, ◌==◌, ℕ, List, length, refl}
use Rattle.std.proofs.Common.{true, false, Bool, Ok, Option, Some, None, All, arith, decimal, inl, inr, nat_le, nat_lt}
use Rattle.std.proofs.lemmas.Bool.{cases_Bool, le-leb, leb-true, le-ltb, ne_eqb}
use Rattle.std.proofs.lemmas.List.Elements.{All-from_get_or}
use Rattle.std.proofs.lemmas.Fmt.{decimal_is_IsNumeral, decimal_nonempty}
use Rattle.std.proofs.lemmas.Fmt.{digits_decimal, digits_value-decimal, length-decimal-le}
use Rattle.std.proofs.lemmas.Str.Parse.{digit_at, FoldsDigits, IsDigitsTest, IsNumeralModel, numerals_by_fold}
use Rattle.std.specs.List.{list_all}
use Rattle.rv_trace.specs.Numbers.{at_most, blank, decimal_after, decimal_of, is_digit, number}

pub both : (a b : Bool) → (a && b) ≡ true → (a ≡ true) × (b ≡ true)
both true b e = (refl, e)
both false b e = absurd (cc e)

tells : IsDigitsTest (λ ds. list_all is_digit ds ≡ true)
tells = record {
  empty = refl;
  parts = λ c cs e.
      let k = both (is_digit c) (list_all is_digit cs) e in
      let m = both (nat_le 48 c) (nat_le c 57) k.0 in
      ((leb-true 48 c m.0, leb-true c 57 m.1), k.1);
  more = λ c cs i e. rw (le-leb 48 c i.0, le-leb c 57 i.1) e;
}

folds : FoldsDigits decimal_after
folds = record { empty = λ n. refl; more = λ n c cs i. refl }

digits : IsNumeralModel (λ ds. list_all is_digit ds ≡ true) (decimal_after 0)
digits = numerals_by_fold (λ ds. list_all is_digit ds ≡ true) tells decimal_after folds

-- what holds of every digit holds of each byte that is printed of a number
pub all_decimal : (P : ℕ → Type 0) → ((c : ℕ) → 48 ≤ c → c ≤ 57 → P c) → (n : ℕ) → n < 2 ^ 64 → All P (decimal n)
all_decimal P holds n fits = All-from_get_or P (decimal n) 0
    (λ i l. let d = digit_at (decimal n) i (decimal_is_IsNumeral n fits).0.1 l in holds _ d.0 d.1)

-- what is printed of a number is read as the number
pub number-decimal : (max n : ℕ) → n ≤ max → max < 2 ^ 32 → number max (decimal n) ≡ Ok n
unfolding number
number-decimal max n within small =
    let fits : n < 2 ^ 64 = omega arith in
    let some = ne_eqb (length (decimal n)) 0 (λ e. omega (arith, e, decimal_nonempty n fits)) in
    let short = le-ltb 10 (length (decimal n)) (length-decimal-le 10 n (omega arith) (omega arith) fits) in
    rw (some, short, digits_decimal digits n fits, digits_value-decimal digits n fits, le-leb n max within) refl

-- a field that is a number is at most so much
pub number-le : (max : ℕ) (text : List ℕ) (n : ℕ) → number max text ≡ Ok n → n ≤ max
unfolding number
number-le max text n said = elim (cases_Bool (length text == 0)) [
  | inl none ↦ let h = rw none at said in absurd (cc h)
  | inr some ↦
      let h = rw some at said in
      elim (cases_Bool (nat_lt 10 (length text))) [
        | inl long ↦ let g = rw long at h in absurd (cc g)
        | inr short ↦ let g = rw short at h in bounded (decimal_of text) g
      ]
] where
  bounded : (o : Option ℕ) → at_most max o ≡ Ok n → n ≤ max
  bounded None e = absurd (cc e)
  bounded (Some m) e = elim (cases_Bool (nat_le m max)) [
    | inl le ↦ let g = rw le at e in let same : m ≡ n = cc g in omega (arith, same, leb-true m max le)
    | inr above ↦ let g = rw above at e in absurd (cc g)
  ]

-- a field that is blank is read as 0
pub blank-zero : (text : List ℕ) (n : ℕ) → blank text ≡ Ok n → n ≡ 0
unfolding blank
blank-zero text n said = elim (cases_Bool (length text == 0)) [
  | inl none ↦ let h = rw none at said in cc h
  | inr some ↦ let h = rw some at said in absurd (cc h)
]
