-- Numbers as bits of words.
use Rattle.std.proofs.Common.{◌≡◌, ◌≢◌, ℕ, zero, suc, ◌+◌, ◌-◌, ◌*◌, ◌/◌, ◌%◌, ◌^◌, ◌<◌, ◌≤◌, min, max, Bool}
use Rattle.std.proofs.Common.{true, false, not, ◌&&◌, ◌||◌, ◌==◌, List, [], ◌++◌, length, get_or, set, take, drop}
use Rattle.std.proofs.Common.{replicate, ◌∙◌, ap, sym, refl, inl, inr, arith, ◌⊎◌, w64, eq-eqb, length-take}
use Rattle.std.proofs.lemmas.Bool.{cases_eq, cases_lt, ne_eqb}
use Rattle.std.proofs.lemmas.List.{get_or-replicate, length-replicate, get_or_past, get_or-append_right}
use Rattle.std.proofs.lemmas.List.{get_or_append_left}
use Rattle.std.proofs.lemmas.List.{get_or-take, get_or-drop}
use Rattle.std.proofs.lemmas.Nat.{leading_top, div-add-mod'}
use Rattle.std.proofs.Math.Nat.{two-pow-succ, mod-lt, suc-mul}
use Rattle.std.proofs.lemmas.Nat.Bits.{bit_at-lt, bit_at_or, bit_at_and, bit_at_not, bit_at-zero, bit_at_set_same}
use Rattle.std.proofs.lemmas.Nat.Bits.{bit_at_set_other, bit_at_above}
use Rattle.std.specs.Prelude.{bit_and, bit_or}
use Rattle.std.specs.Int.{bit_at, bit_not, leading_zeros}
use Rattle.std.proofs.lemmas.Grind.{common_steps}
use Rattle.rv_rows.specs.Bits.{has_bit, Has, IsBetween}
use Rattle.rv_rows.specs.Flat.{shifted}

or_is : (x y : ℕ) → x < 2 → y < 2 → (max x y == 1) ≡ ((x == 1) || (y == 1))
or_is zero zero p q = refl
or_is zero (suc zero) p q = refl
or_is zero (suc (suc y)) p q = absurd (omega arith)
or_is (suc zero) zero p q = refl
or_is (suc zero) (suc zero) p q = refl
or_is (suc zero) (suc (suc y)) p q = absurd (omega arith)
or_is (suc (suc x)) y p q = absurd (omega arith)

less_is : (x y : ℕ) → x < 2 → y < 2 → (min x (1 - y) == 1) ≡ ((x == 1) && not (y == 1))
less_is zero zero p q = refl
less_is zero (suc zero) p q = refl
less_is zero (suc (suc y)) p q = absurd (omega arith)
less_is (suc zero) zero p q = refl
less_is (suc zero) (suc zero) p q = refl
less_is (suc zero) (suc (suc y)) p q = absurd (omega arith)
less_is (suc (suc x)) y p q = absurd (omega arith)

-- less one and then the other is less both
pub less_both : (a b c : Bool) → ((a && not b) && not c) ≡ (a && not (b || c))
less_both true true c = refl
less_both true false c = refl
less_both false b c = refl

abbrev word : List ℕ → ℕ → ℕ
word xs i = get_or xs (i / 64) 0

-- a bit of two words joined
pub has-or : (new a b : List ℕ) (i : ℕ) → word new i ≡ bit_or (word a i) (word b i) →
    has_bit new i ≡ (has_bit a i || has_bit b i)
has-or new a b i e = grind (arith, common_steps, bit_at_or, or_is, bit_at-lt)

-- a bit of a word less another
pub has-less : (new a b : List ℕ) (i : ℕ) → word b i < 2 ^ 64 → word new i ≡ bit_and (word a i)
    (bit_not w64 (word b i)) → has_bit new i ≡ (has_bit a i && not (has_bit b i))
has-less new a b i fits e =
    ap (λ x. bit_at x (i % 64) == 1) e ∙ ap (λ x. x == 1) (bit_at_and (word a i) (bit_not w64 (word b i)) (i % 64)
    ∙ ap (λ y. min (bit_at (word a i) (i % 64)) y) (bit_at_not w64 (word b i) (i % 64) fits (omega arith)))
    ∙ less_is _ _ (bit_at-lt (word a i) (i % 64)) (bit_at-lt (word b i) (i % 64))

or_false : (b : Bool) → b ≡ (b || false)
or_false true = refl
or_false false = refl

or_true : (b : Bool) → true ≡ (b || true)
or_true true = refl
or_true false = refl

-- a bit of a word in which one was set
pub has-set : (words : List ℕ) (i j : ℕ) → i / 64 < length words →
    has_bit (set words (i / 64) (bit_or (word words i) (1 * 2 ^ (i % 64) % 2 ^ 64))) j ≡ (has_bit words j || (i == j))
has-set words i j within = go (cases_eq i j) (cases_eq (j / 64) (i / 64))
  where
    new : ℕ
    new = bit_or (word words i) (1 * 2 ^ (i % 64) % 2 ^ 64)

    go : (i ≡ j) ⊎ (i ≡ j → ⊥) → (j / 64 ≡ i / 64) ⊎ (j / 64 ≡ i / 64 → ⊥) →
        has_bit (set words (i / 64) (bit_or (word words i) (1 * 2 ^ (i % 64) % 2 ^ 64))) j ≡
        (has_bit words j || (i == j))
    go (inl same) _ =
        let at : word (set words (i / 64) new) j ≡ new = grind (arith, common_steps) in
        ap (λ x. bit_at x (j % 64) == 1) at ∙ ap (λ x. bit_at new (x % 64) == 1) (sym same) ∙
        ap (λ x. x == 1) (bit_at_set_same w64 (word words i) (i % 64) (omega arith)) ∙ or_true (has_bit words j) ∙
        ap (λ b. has_bit words j || b) (sym (eq-eqb i j same))
    go (inr other) (inl near) =
        let at : word (set words (i / 64) new) j ≡ new = grind (arith, common_steps) in
        let apart : j % 64 ≢ i % 64 = λ e. other (omega arith) in
        ap (λ x. bit_at x (j % 64) == 1) at ∙
        ap (λ x. x == 1) (bit_at_set_other w64 (word words i) (i % 64) (omega arith) (j % 64) apart) ∙
        ap (λ x. bit_at (get_or words x 0) (j % 64) == 1) (sym near) ∙ or_false _ ∙ ap (λ b. has_bit words j || b)
        (sym (ne_eqb i j other))
    go (inr other) (inr far) = grind (arith, common_steps)

quotient : (q d r w : ℕ) → q * d + r ≡ w → r < d → d ≤ w → w < d + d → q ≡ 1
quotient zero d r w e f low high = absurd (omega arith)
quotient (suc zero) d r w e f low high = refl
quotient (suc (suc q)) d r w e f low high = absurd (omega (arith, suc-mul (suc q) d, suc-mul q d))

once : (w d : ℕ) → d ≤ w → w < d + d → w / d ≡ 1
once w d low high = quotient (w / d) d (w % d) w (div-add-mod' w d) (mod-lt w (omega arith)) low high

one_at : (w t : ℕ) → 2 ^ t ≤ w → w < 2 ^ suc t → w / 2 ^ t ≡ 1
one_at w t low high = once w (2 ^ t) low (omega (arith, high, two-pow-succ t))

top_at : (words : List ℕ) (k n t : ℕ) → 2 ^ t ≤ get_or words k 0 → get_or words k 0 < 2 ^ suc t →
    ((j : ℕ) → k < j / 64 → has_bit words j ≡ false) → n ≡ k * 64 + t → t < 64
    → (has_bit words n ≡ true) × ((j : ℕ) → n < j → has_bit words j ≡ false)
top_at words k n t low high above is small =
    grind (arith, common_steps, one_at, cases_eq, bit_at_above)

-- where no word after word k has a bit, the highest number stands in word k
pub has-top : (words : List ℕ) (k n : ℕ) → 0 < get_or words k 0 → get_or words k 0 < 2 ^ 64 →
    ((j : ℕ) → k < j / 64 → has_bit words j ≡ false) → n ≡ k * 64 + (63 - leading_zeros w64 (get_or words k 0))
    → (has_bit words n ≡ true) × ((j : ℕ) → n < j → has_bit words j ≡ false)
has-top words k n pos fits above is =
    top_at words k n (leading_top 64 (get_or words k 0) pos fits).0 (leading_top 64 (get_or words k 0) pos fits).2
    (leading_top 64 (get_or words k 0) pos fits).3 above
    (omega (arith, is, (leading_top 64 (get_or words k 0) pos fits).1))
    (omega (arith, (leading_top 64 (get_or words k 0) pos fits).1))

abbrev zeros : List ℕ
zeros = replicate 64 0

-- words of nothing
pub zero_words : (k : ℕ) → get_or zeros k 0 ≡ 0
zero_words k = go (cases_lt k 64)
  where
    go : (k < 64) ⊎ (64 ≤ k) → get_or zeros k 0 ≡ 0
    go (inl low) = get_or-replicate 64 k 0 0 low
    go (inr high) = get_or_past zeros k 0 (omega (arith, length-replicate {A = ℕ} 64 0))

-- an empty word has no number
pub zero_bit : (words : List ℕ) (i : ℕ) → word words i ≡ 0 → has_bit words i ≡ false
zero_bit words i none = ap (λ x. bit_at x (i % 64) == 1) none ∙ ap (λ x. x == 1) (bit_at-zero (i % 64))

-- the words before the place are empty
pub shifted_before : (n : ℕ) (part : List ℕ) (k : ℕ) → k < n → get_or (shifted n part) k 0 ≡ 0
shifted_before n part k low = grind (arith, common_steps)

-- from the place on they are the part's
pub shifted_from : (n : ℕ) (part : List ℕ) (k : ℕ) → n ≤ k → get_or (shifted n part) k 0 ≡ get_or part (k - n) 0
shifted_from n part k high = get_or-append_right (replicate n 0) part n k 0 (length-replicate n 0) high

-- behind the part they are empty
pub shifted_after : (n : ℕ) (part : List ℕ) (k : ℕ) → n + length part ≤ k → get_or (shifted n part) k 0 ≡ 0
shifted_after n part k high = shifted_from n part k (omega arith) ∙ get_or_past part (k - n) 0 (omega arith)

-- words of which those from a place on are joined with others
pub joined_part : (new a part : List ℕ) (n : ℕ)
    → ((j : ℕ) → j < length part → get_or new (n + j) 0 ≡ bit_or (get_or a (n + j) 0) (get_or part j 0))
    → ((k : ℕ) → k < n → get_or new k 0 ≡ get_or a k 0)
    → ((k : ℕ) → n + length part ≤ k → get_or new k 0 ≡ get_or a k 0)
    → (i : ℕ) → has_bit new i ≡ (has_bit a i || has_bit (shifted n part) i)
joined_part new a part n each before after i = go (cases_lt (i / 64) n) (cases_lt (i / 64) (n + length part))
  where
    same : word new i ≡ word a i → word (shifted n part) i ≡ 0 →
        has_bit new i ≡ (has_bit a i || has_bit (shifted n part) i)
    same e none = grind (arith, common_steps)

    go : (i / 64 < n) ⊎ (n ≤ i / 64) → (i / 64 < n + length part) ⊎ (n + length part ≤ i / 64)
        → has_bit new i ≡ (has_bit a i || has_bit (shifted n part) i)
    go (inl low) _ = same (before (i / 64) low) (shifted_before n part (i / 64) low)
    go (inr from) (inr high) = same (after (i / 64) high) (shifted_after n part (i / 64) high)
    go (inr from) (inl below) =
        let at : n + (i / 64 - n) ≡ i / 64 = omega arith in
        has-or new a (shifted n part) i (ap (λ k. get_or new k 0) (sym at) ∙ each (i / 64 - n) (omega arith)
        ∙ ap (λ k. bit_or (get_or a k 0) (get_or part (i / 64 - n) 0)) at
        ∙ ap (λ x. bit_or (word a i) x) (sym (shifted_from n part (i / 64) from)))

and_true : (b : Bool) → b ≡ (b && not false)
and_true true = refl
and_true false = refl

-- words out of which others are taken, from one word to another; beyond these one side is empty
pub cut_part : (new a part : List ℕ) (n from to : ℕ) → n ≤ from
    → ((k : ℕ) → from ≤ k → k < to → (get_or new k 0 ≡ bit_and (get_or a k 0) (bit_not w64 (get_or part (k - n) 0))) ×
    (get_or part (k - n) 0 < 2 ^ 64))
    → ((k : ℕ) → (k < from) ⊎ (to ≤ k) → get_or new k 0 ≡ get_or a k 0)
    → ((k : ℕ) → (k < from) ⊎ (to ≤ k) → (get_or a k 0 ≡ 0) ⊎ (get_or (shifted n part) k 0 ≡ 0))
    → (i : ℕ) → has_bit new i ≡ (has_bit a i && not (has_bit (shifted n part) i))
cut_part new a part n from to low each rest empty i = go (cases_lt (i / 64) from) (cases_lt (i / 64) to)
  where
    kept : (i / 64 < from) ⊎ (to ≤ i / 64) → has_bit new i ≡ has_bit a i
    kept far = ap (λ x. bit_at x (i % 64) == 1) (rest (i / 64) far)

    apart : has_bit new i ≡ has_bit a i → (word a i ≡ 0) ⊎ (word (shifted n part) i ≡ 0) →
        has_bit new i ≡ (has_bit a i && not (has_bit (shifted n part) i))
    apart same (inl none) = grind (arith, common_steps)
    apart same (inr none) =
        same ∙ and_true (has_bit a i) ∙ ap (λ b. has_bit a i && not b) (sym (zero_bit (shifted n part) i none))

    go : (i / 64 < from) ⊎ (from ≤ i / 64) → (i / 64 < to) ⊎ (to ≤ i / 64) →
        has_bit new i ≡ (has_bit a i && not (has_bit (shifted n part) i))
    go (inl before) _ = apart (kept (inl before)) (empty (i / 64) (inl before))
    go (inr here) (inr after) = apart (kept (inr after)) (empty (i / 64) (inr after))
    go (inr here) (inl below) =
        let at = shifted_from n part (i / 64) (omega arith) in
        let one = each (i / 64) here below in
        has-less new a (shifted n part) i (omega (arith, at, one.1))
        (one.0 ∙ ap (λ x. bit_and (word a i) (bit_not w64 x)) (sym at))

-- the words between the empty ones have the set's numbers from a word on
pub used_bits : (words part : List ℕ) (low high from first : ℕ) → IsBetween words low high → first ≡ max low from →
    part ≡ take (high - first) (drop first words)
    → (i : ℕ) → from ≤ i / 64 → has_bit (shifted first part) i ≡ has_bit words i
used_bits words part low high from first between most is i behind =
    ap (λ x. bit_at x (i % 64) == 1) (go (cases_lt (i / 64) first) (cases_lt (i / 64) high))
  where
    short : length part ≤ high - first
    short = omega (arith, ap (λ (xs : List ℕ). length xs) is, length-take (high - first) (drop first words))

    go : (i / 64 < first) ⊎ (first ≤ i / 64) → (i / 64 < high) ⊎ (high ≤ i / 64) →
        word (shifted first part) i ≡ word words i
    go (inl below) _ = shifted_before first part (i / 64) below ∙ sym (between.before (i / 64) (omega arith))
    go (inr here) (inr above) = shifted_after first part (i / 64) (omega (arith, short)) ∙
        sym (between.after (i / 64) above)
    go (inr here) (inl inside) =
        let at : first + (i / 64 - first) ≡ i / 64 = omega arith in
        shifted_from first part (i / 64) here
        ∙ ap (λ (xs : List ℕ). get_or xs (i / 64 - first) 0) is
        ∙ get_or-take (high - first) (drop first words) (i / 64 - first) 0 (omega arith)
        ∙ get_or-drop first words (i / 64 - first) 0 ∙ ap (λ k. get_or words k 0) at

-- and none, where these end before that word
pub unused_bits : (words : List ℕ) (low high from : ℕ) → IsBetween words low high → high ≤ max low from →
    (i : ℕ) → from ≤ i / 64 → has_bit (shifted from []) i ≡ has_bit words i
unused_bits words low high from between ends i behind =
    ap (λ x. bit_at x (i % 64) == 1)
    (shifted_after from [] (i / 64) (omega arith) ∙ sym (go (cases_lt (i / 64) high)))
  where
    go : (i / 64 < high) ⊎ (high ≤ i / 64) → word words i ≡ 0
    go (inl inside) = between.before (i / 64) (omega arith)
    go (inr above) = between.after (i / 64) above

-- words behind others, with empty ones between
pub both_parts : (front part : List ℕ) (s f : ℕ) → length front ≡ s → s ≤ f →
    (i : ℕ) → has_bit (front ++ shifted (f - s) part) i ≡ (has_bit front i || has_bit (shifted f part) i)
both_parts front part s f long behind i = go (cases_lt (i / 64) s)
  where
    moved : (i / 64 < f) ⊎ (f ≤ i / 64) → s ≤ i / 64 →
        get_or (shifted (f - s) part) (i / 64 - s) 0 ≡ word (shifted f part) i
    moved (inl low) from = shifted_before (f - s) part (i / 64 - s) (omega arith) ∙
        sym (shifted_before f part (i / 64) low)
    moved (inr high) from =
        let at : i / 64 - s - (f - s) ≡ i / 64 - f = omega arith in
        shifted_from (f - s) part (i / 64 - s) (omega arith) ∙ ap (λ k. get_or part k 0) at ∙
        sym (shifted_from f part (i / 64) high)

    go : (i / 64 < s) ⊎ (s ≤ i / 64) →
        has_bit (front ++ shifted (f - s) part) i ≡ (has_bit front i || has_bit (shifted f part) i)
    go (inl low) = ap (λ x. bit_at x (i % 64) == 1)
        (get_or_append_left front (shifted (f - s) part) 0 (i / 64) (omega (arith, long)))
        ∙ or_false (has_bit front i)
        ∙ ap (λ b. has_bit front i || b)
        (sym (zero_bit (shifted f part) i (shifted_before f part (i / 64) (omega arith))))
    go (inr high) = ap (λ x. bit_at x (i % 64) == 1)
        (get_or-append_right front (shifted (f - s) part) s (i / 64) 0 long high ∙ moved (cases_lt (i / 64) f) high)
        ∙ ap (λ b. b || has_bit (shifted f part) i) (sym (zero_bit front i (get_or_past front (i / 64) 0
        (omega (arith, long)))))

-- words that are the set's up to a place, and behind it those that have its numbers from there on
pub all_bits : (stem row part : List ℕ) (s f : ℕ) → s ≤ length stem → s ≤ f
    → ((k : ℕ) → k < s → get_or stem k 0 ≡ get_or row k 0)
    → ((j : ℕ) → s ≤ j / 64 → has_bit (shifted f part) j ≡ has_bit row j)
    → (j : ℕ) → has_bit (take s stem ++ shifted (f - s) part) j ≡ has_bit row j
all_bits stem row part s f within behind same rest j =
    both_parts (take s stem) part s f long behind j ∙ go (cases_lt (j / 64) s)
  where
    long : length (take s stem) ≡ s
    long = omega (arith, length-take s stem)

    go : (j / 64 < s) ⊎ (s ≤ j / 64) → (has_bit (take s stem) j || has_bit (shifted f part) j) ≡ has_bit row j
    go (inl low) =
        ap (λ b. has_bit (take s stem) j || b)
        (zero_bit (shifted f part) j (shifted_before f part (j / 64) (omega arith)))
        ∙ sym (or_false (has_bit (take s stem) j))
        ∙ ap (λ x. bit_at x (j % 64) == 1) (get_or-take s stem (j / 64) 0 low ∙ same (j / 64) low)
    go (inr high) =
        ap (λ b. b || has_bit (shifted f part) j)
        (zero_bit (take s stem) j (get_or_past (take s stem) (j / 64) 0 (omega (arith, long))))
        ∙ rest j high

-- where all numbers are below the limit, and the words from k up to the limit or the end are empty,
-- none is in word k or later
pub none_from : (words : List ℕ) (low high limit top start k : ℕ) → IsBetween words low high → limit ≤ top * 64 →
    start ≡ min top high → ((j : ℕ) → Has words j → j < limit)
    → ((j : ℕ) → k ≤ j → j < start → get_or words j 0 ≡ 0) → (j : ℕ) → k ≤ j / 64 → has_bit words j ≡ false
none_from words low high limit top start k between enough least below empty j from =
    grind (arith, common_steps)
