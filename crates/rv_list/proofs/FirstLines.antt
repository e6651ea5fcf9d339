-- The first of the lines in some bytes.
use Rattle.std.proofs.Common.{◌≡◌, ◌∙◌, ◌<◌, ◌-◌, ◌==◌, ◌⊎◌, ℕ, Bool, true, false, List, [], ◌∷◌, ◌++◌}
use Rattle.std.proofs.Common.{All, ap, arith, inl, inr, length, nat_eq, refl, subst, sym}
use Rattle.std.proofs.Common.{take, Option, Some, None}
use Rattle.std.proofs.lemmas.Grind.{common_steps}
use Rattle.std.proofs.Math.Seq.{drop-cons}
use Rattle.std.proofs.lemmas.List.{append_cancel_right, take-append-drop}
use Rattle.std.proofs.lemmas.List.Elements.{All-cons, All-head, All-nil, All-tail}
use Rattle.std.proofs.lemmas.List.Splits.{length-slice_split, slice_split_at, slice_split_none}
use Rattle.std.specs.Io.BufRead.{DropsThrough, drop_through, take_through}
use Rattle.std.specs.List.{ends_with, slice_index, slice_split}
use Rattle.std.specs.Option.{IfSome}
use Rattle.std.specs.Str.Lines.{lines, lines_of_parts, strip_carriage_return}
use Rattle.rv_list.specs.ListLines.{TakesLine}

-- no byte is a line feed
abbrev pub IsOneLine : List ℕ → Type 0
IsOneLine = All (λ b. (b == 10) ≡ false)

-- ---- up to the first line feed
-- bytes have no line feed, or these stand before the first one and those behind it
abbrev pub IsCut : List ℕ → Type 0
IsCut bytes = IsOneLine bytes ⊎ ((line rest : List ℕ) × IsOneLine line × (bytes ≡ line ++ 10 ∷ rest))

feed : (n : ℕ) → (n == 10) ≡ true → n ≡ 10
feed n e = grind (arith, common_steps)

cut : (bytes : List ℕ) → IsCut bytes
cut [] = inl (All-nil (λ b. (b == 10) ≡ false))
cut (b ∷ bytes) = by (b == 10) refl (cut bytes)
  where
    by : (is : Bool) → (b == 10) ≡ is → IsCut bytes → IsCut (b ∷ bytes)
    by true e later = inr ([], bytes, All-nil (λ b. (b == 10) ≡ false), rw (feed b e) refl)
    by false e (inl none) = inl (All-cons (λ b. (b == 10) ≡ false) b bytes e none)
    by false e (inr at) =
        inr (b ∷ at.0, at.1, All-cons (λ b. (b == 10) ≡ false) b at.0 e at.2, ap (λ (l : List ℕ). b ∷ l) at.3)

taken-none : (bytes : List ℕ) → IsOneLine bytes → take_through 10 bytes ≡ bytes
taken-none [] none = refl
taken-none (b ∷ bytes) none =
    rw (
      All-head (λ b. (b == 10) ≡ false) b bytes none,
      taken-none bytes (All-tail (λ b. (b == 10) ≡ false) b bytes none),
    ) refl

left-none : (bytes : List ℕ) → IsOneLine bytes → drop_through 10 bytes ≡ []
left-none [] none = refl
left-none (b ∷ bytes) none =
    rw (
      All-head (λ b. (b == 10) ≡ false) b bytes none,
      left-none bytes (All-tail (λ b. (b == 10) ≡ false) b bytes none),
    ) refl

taken-at : (line rest : List ℕ) → IsOneLine line → take_through 10 (line ++ 10 ∷ rest) ≡ line ++ 10 ∷ []
taken-at [] rest none = refl
taken-at (b ∷ line) rest none =
    rw (
      All-head (λ b. (b == 10) ≡ false) b line none,
      taken-at line rest (All-tail (λ b. (b == 10) ≡ false) b line none),
    ) refl

left-at : (line rest : List ℕ) → IsOneLine line → drop_through 10 (line ++ 10 ∷ rest) ≡ rest
left-at [] rest none = refl
left-at (b ∷ line) rest none =
    rw (
      All-head (λ b. (b == 10) ≡ false) b line none,
      left-at line rest (All-tail (λ b. (b == 10) ≡ false) b line none),
    ) refl

-- ---- the last byte
last-is : (l : List ℕ) (c : ℕ) → 0 < length l →
    ends_with nat_eq l (c ∷ []) ≡ nat_eq c (slice_index l (length l - 1))
last-is l c some = grind (arith, common_steps, drop-cons)

pub before-last : (l : List ℕ) (c : ℕ) → 0 < length l → ends_with nat_eq l (c ∷ []) ≡ true →
    l ≡ take (length l - 1) l ++ c ∷ []
before-last l c some is = grind (arith, common_steps, drop-cons, take-append-drop, last-is)

ends : (l : List ℕ) (c : ℕ) → ends_with nat_eq (l ++ c ∷ []) (c ∷ []) ≡ true
ends l c = grind (arith, common_steps, drop-cons, last-is)

-- ---- the first line
abbrev IsFirst : List ℕ → List ℕ → Type 0
IsFirst bytes line = lines bytes ≡ line ∷ lines (drop_through 10 bytes)

-- where no line feed stands behind what was taken, that is the only line
first-alone : (bytes : List ℕ) → 0 < length (take_through 10 bytes) →
    ends_with nat_eq (take_through 10 bytes) (10 ∷ []) ≡ false → IsFirst bytes (take_through 10 bytes)
first-alone bytes some open_ended = by (cut bytes)
  where
    alone : (l : List ℕ) → 0 < length l → lines_of_parts (l ∷ []) ≡ l ∷ []
    alone [] low = absurd (omega (low, arith))
    alone (b ∷ l) low = grind (arith, common_steps)

    by : IsCut bytes → IsFirst bytes (take_through 10 bytes)
    by (inl none) = rw (taken-none bytes none, left-none bytes none, slice_split_none (λ b. b == 10) bytes none)
        (alone bytes (subst (λ (l : List ℕ). 0 < length l) (taken-none bytes none) some))
    by (inr at) =
        let whole : ends_with nat_eq (take_through 10 bytes) (10 ∷ []) ≡ true =
        rw (at.3, taken-at at.0 at.1 at.2) (ends at.0 10) in
        let bad : true ≡ false = sym whole ∙ open_ended in cc

-- where the line feed is taken off, it is what stands before that, but for a carriage return
split-at : (line rest : List ℕ) → IsOneLine line →
    lines (line ++ 10 ∷ rest) ≡ strip_carriage_return line ∷ lines rest
split-at line rest none =
    ap lines_of_parts (slice_split_at (λ b. b == 10) line 10 rest none refl)
    ∙ more (slice_split (λ b. b == 10) rest) (parted rest)
  where
    more : (ps : List (List ℕ)) → 0 < length ps →
        lines_of_parts (line ∷ ps) ≡ strip_carriage_return line ∷ lines_of_parts ps
    more [] low = absurd (omega (low, arith))
    more (p ∷ ps) low = refl

    parted : (bytes : List ℕ) → 0 < length (slice_split (λ b. b == 10) bytes)
    parted bytes = omega (length-slice_split (λ b. b == 10) bytes, arith)

last-one : (line : List ℕ) → IsOneLine (line ++ 10 ∷ []) → ⊥
last-one [] none = let bad : true ≡ false = All-head (λ b. (b == 10) ≡ false) 10 [] none in cc
last-one (b ∷ line) none = last-one line (All-tail (λ b. (b == 10) ≡ false) b (line ++ 10 ∷ []) none)

first-fed : (bytes line : List ℕ) → take_through 10 bytes ≡ line ++ 10 ∷ [] →
    IsFirst bytes (strip_carriage_return line)
first-fed bytes line is = by (cut bytes)
  where
    by : IsCut bytes → IsFirst bytes (strip_carriage_return line)
    by (inl none) = absurd (last-one line (subst IsOneLine (sym (taken-none bytes none) ∙ is) none))
    by (inr at) =
        let same : at.0 ≡ line = append_cancel_right at.0 line (10 ∷ [])
        (sym (taken-at at.0 at.1 at.2) ∙ ap (take_through 10) (sym at.3) ∙ is) in
        rw (at.3, left-at at.0 at.1 at.2) (split-at at.0 at.1 at.2
        ∙ ap (λ (l : List ℕ). strip_carriage_return l ∷ lines at.1) same)

-- the carriage return before a line feed
no-return : (line : List ℕ) → ends_with nat_eq line (13 ∷ []) ≡ false → strip_carriage_return line ≡ line
no-return [] other = refl
no-return (b ∷ line) other = grind (arith, common_steps, last-is)

returned : (line : List ℕ) → 0 < length line → ends_with nat_eq line (13 ∷ []) ≡ true →
    strip_carriage_return line ≡ take (length line - 1) line
returned line some is = grind (arith, common_steps, last-is)

-- ---- the same, of a reader
takes : (old new : Option (List ℕ)) (taken line : List ℕ) → IfSome old (λ bytes. taken ≡ take_through 10 bytes) →
    DropsThrough old new 10 → ((bytes : List ℕ) → taken ≡ take_through 10 bytes → IsFirst bytes line) →
    TakesLine old new line
takes None new taken line is drops first = tt
takes (Some bytes) None taken line is drops first = let bad : None ≡ Some (drop_through 10 bytes) = drops in cc
takes (Some bytes) (Some left) taken line is drops first =
    first bytes is ∙ ap (λ (l : List ℕ). line ∷ lines l) (sym (some_is left (drop_through 10 bytes) drops))
  where
    some_is : (a b : List ℕ) → Some a ≡ Some b → a ≡ b
    some_is a b e = cc

-- all bytes that were left were taken
pub takes-alone : (old new : Option (List ℕ)) (taken : List ℕ) →
    IfSome old (λ bytes. taken ≡ take_through 10 bytes) → DropsThrough old new 10 → 0 < length taken →
    ends_with nat_eq taken (10 ∷ []) ≡ false → TakesLine old new taken
takes-alone old new taken is drops some open_ended = takes old new taken taken is drops
    (λ bytes e. subst (IsFirst bytes) (sym e) (first-alone bytes (subst (λ (l : List ℕ). 0 < length l) e some)
    (subst (λ (l : List ℕ). ends_with nat_eq l (10 ∷ []) ≡ false) e open_ended)))

-- a line feed was taken off
pub takes-fed : (old new : Option (List ℕ)) (taken line : List ℕ) →
    IfSome old (λ bytes. taken ≡ take_through 10 bytes) → DropsThrough old new 10 → taken ≡ line ++ 10 ∷ [] →
    ends_with nat_eq line (13 ∷ []) ≡ false → TakesLine old new line
takes-fed old new taken line is drops fed other = takes old new taken line is drops
    (λ bytes e. subst (IsFirst bytes) (no-return line other) (first-fed bytes line (sym e ∙ fed)))

-- and a carriage return before it
pub takes-returned : (old new : Option (List ℕ)) (taken line rest : List ℕ) →
    IfSome old (λ bytes. taken ≡ take_through 10 bytes) → DropsThrough old new 10 → taken ≡ line ++ 10 ∷ [] →
    0 < length line → ends_with nat_eq line (13 ∷ []) ≡ true → rest ≡ take (length line - 1) line →
    TakesLine old new rest
takes-returned old new taken line rest is drops fed some back same = takes old new taken rest is drops
    (λ bytes e. subst (IsFirst bytes) (returned line some back ∙ sym same) (first-fed bytes line (sym e ∙ fed)))
