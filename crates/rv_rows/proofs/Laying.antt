-- Rows that lie one after the other.
use Rattle.std.proofs.Common.{◌≡◌, ℕ, suc, ◌+◌, ◌-◌, ◌*◌, ◌<◌, ◌≤◌, List, [], ◌∷◌, ◌++◌, length, get_or, take, drop}
use Rattle.std.proofs.Common.{map, ◌||◌}
use Rattle.std.proofs.Common.{refl, sym, ap, ◌∙◌, arith, ◌⊎◌, inl, inr, subst, length-take, length-append}
use Rattle.std.proofs.Common.{take-append-drop}
use Rattle.std.proofs.lemmas.Bool.{cases_lt}
use Rattle.std.proofs.lemmas.List.{take_at, get_or_at, get_or_append_left, length_push, get_or-map, map-append}
use Rattle.std.proofs.lemmas.List.{length-map}
use Rattle.std.proofs.lemmas.List.Quantifiers.{all_pairs_push}
use Rattle.std.proofs.Math.Seq.{take-length, drop-append_seam}
use Rattle.std.proofs.lemmas.Grind.{common_steps}
use Rattle.rv_rows.specs.Bits.{has_bit}
use Rattle.rv_rows.specs.Flat.{beginning_at, part_at, shifted, row_at, rows_of, IsWithin, AreLaid}
use Rattle.rv_rows.proofs.Words.{both_parts}
use Rattle.rv_rows.specs.declared.rows.Place.{Place}

-- rows are read one by one
pub rows_are : (stem words : List ℕ) (places : List Place) →
    rows_of stem words places ≡ map (row_at stem words) places
unfolding rows_of
rows_are stem words places = refl

-- as many as there are places
pub rows_count : (stem words : List ℕ) (places : List Place) → length (rows_of stem words places) ≡ length places
rows_count stem words places = ap (λ (rs : List (List ℕ)). length rs) (rows_are stem words places) ∙
    length-map places (row_at stem words)

-- a row among the others
pub row_is : (stem words : List ℕ) (places : List Place) (k : ℕ) (d : Place) → k < length places →
    get_or (rows_of stem words places) k [] ≡ row_at stem words (get_or places k d)
row_is stem words places k d low = ap (λ (rs : List (List ℕ)). get_or rs k []) (rows_are stem words places) ∙
    get_or-map (row_at stem words) places k d [] low

-- a place among others has one of the rows
pub low_place : (stem words : List ℕ) (places : List Place) (rows : List (List ℕ)) (k : ℕ) →
    rows_of stem words places ≡ rows → k < length rows → k < length places
low_place stem words places rows k are low = omega
    (arith, rows_count stem words places, ap (λ (rs : List (List ℕ)). length rs) are)

-- what holds of it
pub place_at : (stem words : List ℕ) (places : List Place) (k : ℕ) (p : Place) → AreLaid stem words places →
    k < length places → p ≡ get_or places k p → IsWithin stem words p
place_at stem words places k p laid low is = subst (IsWithin stem words) (sym is) (laid.within k p low)

-- and its row has what it shares and what is kept of it
pub row_there : (stem words front part : List ℕ) (places : List Place) (rows : List (List ℕ)) (k : ℕ) (p : Place) →
    AreLaid stem words places → rows_of stem words places ≡ rows → k < length rows → p ≡ get_or places k p →
    front ≡ beginning_at stem p → part ≡ part_at words p
    → (j : ℕ) → (has_bit front j || has_bit (shifted p.first part) j) ≡ has_bit (get_or rows k []) j
row_there stem words front part places rows k p laid are low is shares own j =
    sym (both_parts front part p.shared p.first long within.behind j)
    ∙ ap (λ (xs : List ℕ). has_bit xs j) (
    ap (λ (xs : List ℕ). xs ++ shifted (p.first - p.shared) part) shares
    ∙ ap (λ (xs : List ℕ). beginning_at stem p ++ shifted (p.first - p.shared) xs) own
    ∙ ap (row_at stem words) is ∙ sym (row_is stem words places k p here)
    ∙ ap (λ (rs : List (List ℕ)). get_or rs k []) are)
  where
    here : k < length places
    here = low_place stem words places rows k are low

    within : IsWithin stem words p
    within = place_at stem words places k p laid here is

    long : length front ≡ p.shared
    long = let share = within.shared in omega
        (arith, ap (λ (xs : List ℕ). length xs) shares, length-take p.shared stem)

-- no more words are kept than the place says
pub part_short : (words : List ℕ) (p : Place) → length (part_at words p) ≤ p.count
part_short words p = omega (arith, length-take p.count (drop p.start words))

-- no more words of the stem are shared than the place says
pub beginning_short : (stem : List ℕ) (p : Place) → length (beginning_at stem p) ≤ p.shared
beginning_short stem p = omega (arith, length-take p.shared stem)

-- what is kept of a row stays as it is when words are added after it
part_stays : (words more : List ℕ) (p : Place) → p.start + p.count ≤ length words →
    part_at (words ++ more) p ≡ part_at words p
part_stays words more p low = grind (arith, common_steps)

-- what it shares stays as it is when the stem grows
beginning_stays : (stem more : List ℕ) (p : Place) → p.shared ≤ length stem →
    beginning_at (stem ++ more) p ≡ beginning_at stem p
beginning_stays stem more p low = grind (arith, common_steps)

-- words that are added leave the rows
pub rows_stay : (stem words more : List ℕ) (places : List Place) →
    ((k : ℕ) (d : Place) → k < length places → (get_or places k d).start + (get_or places k d).count ≤ length words)
    → map (row_at stem (words ++ more)) places ≡ map (row_at stem words) places
rows_stay stem words more [] low = refl
rows_stay stem words more (p ∷ rest) low =
    ap (λ (r : List ℕ). r ∷ map (row_at stem (words ++ more)) rest)
    (ap (λ (xs : List ℕ). beginning_at stem p ++ shifted (p.first - p.shared) xs)
    (part_stays words more p (low 0 p (omega arith))))
    ∙ ap (λ (rs : List (List ℕ)). row_at stem words p ∷ rs)
    (rows_stay stem words more rest (λ k d far. low (suc k) d (omega arith)))

-- and so does a longer stem
rows_last : (stem more words : List ℕ) (places : List Place) →
    ((k : ℕ) (d : Place) → k < length places → (get_or places k d).shared ≤ length stem)
    → map (row_at (stem ++ more) words) places ≡ map (row_at stem words) places
rows_last stem more words [] low = refl
rows_last stem more words (p ∷ rest) low =
    ap (λ (r : List ℕ). r ∷ map (row_at (stem ++ more) words) rest)
    (ap (λ (xs : List ℕ). xs ++ shifted (p.first - p.shared) (part_at words p))
    (beginning_stays stem more p (low 0 p (omega arith))))
    ∙ ap (λ (rs : List (List ℕ)). row_at stem words p ∷ rs)
    (rows_last stem more words rest (λ k d far. low (suc k) d (omega arith)))

-- the rows over a longer stem
pub rows_longer : (stem more words : List ℕ) (places : List Place) → AreLaid stem words places →
    rows_of (stem ++ more) words places ≡ rows_of stem words places
rows_longer stem more words places laid = rows_are (stem ++ more) words places
    ∙ rows_last stem more words places (λ k d low. (laid.within k d low).shared)
    ∙ sym (rows_are stem words places)

-- and where they lie
pub laid_longer : (stem words : List ℕ) (places : List Place) (word : ℕ) → AreLaid stem words places →
    length stem < 64 → AreLaid (stem ++ word ∷ []) words places
laid_longer stem words places word laid small = record {
  few = laid.few;
  within = λ k d low. (let one = laid.within k d low in record {
    shared = let shares = one.shared in omega (arith, length_push stem word);
    behind = one.behind;
    kept = one.kept;
    few = one.few;
  });
  apart = laid.apart;
  early = laid.early;
  short = laid.short;
  small = omega (arith, length_push stem word);
}

-- a row more
pub rows_more : (stem words part : List ℕ) (places : List Place) (p : Place) → AreLaid stem words places →
    p.start ≡ length words → p.count ≡ length part
    → rows_of stem (words ++ part) (places ++ p ∷ [])
    ≡ rows_of stem words places ++ (beginning_at stem p ++ shifted (p.first - p.shared) part) ∷ []
rows_more stem words part places p laid begins counts =
    rows_are stem (words ++ part) (places ++ p ∷ [])
    ∙ map-append (row_at stem (words ++ part)) places (p ∷ [])
    ∙ ap (λ (rs : List (List ℕ)). rs ++ row_at stem (words ++ part) p ∷ [])
    (rows_stay stem words part places (λ k d low. (laid.within k d low).kept) ∙ sym (rows_are stem words places))
    ∙ ap (λ (xs : List ℕ). rows_of stem words places ++
    (beginning_at stem p ++ shifted (p.first - p.shared) xs) ∷ []) last
  where
    last : part_at (words ++ part) p ≡ part
    last = grind (arith, common_steps, drop-append_seam, take-length)

-- the places with one more, behind the words so far
pub laid_more : (stem words part : List ℕ) (places : List Place) (p : Place) → AreLaid stem words places →
    length places < 4096 → p.start ≡ length words → p.count ≡ length part → p.shared ≤ length stem →
    p.shared ≤ p.first → p.first + p.count ≤ 64
    → AreLaid stem (words ++ part) (places ++ p ∷ [])
laid_more stem words part places p laid few begins counts shares behind narrow = record {
  few = omega (arith, length_push places p);
  within = λ k d low. within k d (omega (arith, length_push places p)) (cases_lt k (length places));
  apart = all_pairs_push (λ x y. x.start + x.count ≤ y.start) places p laid.apart
      (λ k d low. (let one = (laid.within k d low).kept in omega arith));
  early = λ k d low. early k d (omega (arith, length_push places p)) (cases_lt k (length places));
  short = let before = laid.short in omega (arith, long, length_push places p);
  small = laid.small;
}
  where
    long : length (words ++ part) ≡ length words + length part
    long = length-append words part

    within : (k : ℕ) (d : Place) → k < length places + 1 → (k < length places) ⊎ (length places ≤ k) →
        IsWithin stem (words ++ part) (get_or (places ++ p ∷ []) k d)
    within k d low (inl before) = rw (get_or_append_left places (p ∷ []) d k before) (record {
      shared = (laid.within k d before).shared;
      behind = (laid.within k d before).behind;
      kept = let one = (laid.within k d before).kept in omega (arith, long);
      few = (laid.within k d before).few;
    })
    within k d low (inr here) = rw (get_or_at places p [] d k (omega arith)) (record {
      shared = shares;
      behind = behind;
      kept = omega (arith, long);
      few = narrow;
    })

    early : (k : ℕ) (d : Place) → k < length places + 1 → (k < length places) ⊎ (length places ≤ k) →
        (get_or (places ++ p ∷ []) k d).start ≤ 64 * k
    early k d low (inl before) = rw (get_or_append_left places (p ∷ []) d k before) (laid.early k d before)
    early k d low (inr here) = rw (get_or_at places p [] d k (omega arith))
        (let before = laid.short in omega arith)

-- the last row begins among the words
taken : (stem words : List ℕ) (front : List Place) (last : Place) → AreLaid stem words (front ++ last ∷ []) →
    length (take last.start words) ≡ last.start
taken stem words front last laid =
    let inside = (rw (get_or_at front last [] last (length front) refl) at
    (laid.within (length front) last (omega (arith, length_push front last)))).kept in
    omega (arith, length-take last.start words)

-- the words up to the last row
pub ends_below : (stem words : List ℕ) (front : List Place) (last : Place) → AreLaid stem words (front ++ last ∷ [])
    → (k : ℕ) (d : Place) → k < length front → (get_or front k d).start + (get_or front k d).count ≤ last.start
ends_below stem words front last laid k d low =
    let pair = laid.apart k (length front) d low (omega (arith, length_push front last)) in
    rw (get_or_append_left front (last ∷ []) d k low, get_or_at front last [] d (length front) refl) at pair

-- a row less
pub rows_less : (stem words : List ℕ) (front : List Place) (last : Place) (rows : List (List ℕ)) (row : List ℕ) →
    AreLaid stem words (front ++ last ∷ []) → rows_of stem words (front ++ last ∷ []) ≡ rows ++ row ∷ []
    → rows_of stem (take last.start words) front ≡ rows
rows_less stem words front last rows row laid is = rows_are stem (take last.start words) front
    ∙ sym (rows_stay stem (take last.start words) (drop last.start words) front
    (λ k d low. omega (arith, ends_below stem words front last laid k d low, whole)))
    ∙ ap (λ (xs : List ℕ). map (row_at stem xs) front) (take-append-drop last.start words)
    ∙ sym (take_at (map (row_at stem words) front) (row_at stem words last ∷ []) (length front)
    (length-map front (row_at stem words)))
    ∙ ap (take (length front)) both ∙ take_at rows (row ∷ []) (length front) same
  where
    whole : length (take last.start words) ≡ last.start
    whole = taken stem words front last laid

    both : map (row_at stem words) front ++ row_at stem words last ∷ [] ≡ rows ++ row ∷ []
    both = sym (map-append (row_at stem words) front (last ∷ [])) ∙
        sym (rows_are stem words (front ++ last ∷ [])) ∙ is

    same : length rows ≡ length front
    same = omega (
      arith,
      ap (λ (rs : List (List ℕ)). length rs) both,
      length_push rows row,
      length_push (map (row_at stem words) front) (row_at stem words last),
      length-map front (row_at stem words),
    )

-- the rows without the last one
pub laid_less : (stem words : List ℕ) (front : List Place) (last : Place) → AreLaid stem words (front ++ last ∷ [])
    → AreLaid stem (take last.start words) front
laid_less stem words front last laid = record {
  few = let all = laid.few in omega (arith, length_push front last);
  within = λ k d low. record {
    shared = (one k d low).shared;
    behind = (one k d low).behind;
    kept = omega (arith, ends_below stem words front last laid k d low, whole);
    few = (one k d low).few;
  };
  apart = λ i j d before low.
      (rw (get_or_append_left front (last ∷ []) d i (omega arith), get_or_append_left front (last ∷ []) d j low) at
      (laid.apart i j d before (omega (arith, length_push front last))));
  early = λ k d low. rw (get_or_append_left front (last ∷ []) d k low) at
      (laid.early k d (omega (arith, length_push front last)));
  short = let begins = rw (get_or_at front last [] last (length front) refl) at
      (laid.early (length front) last (omega (arith, length_push front last))) in omega (arith, whole);
  small = laid.small;
}
  where
    whole : length (take last.start words) ≡ last.start
    whole = taken stem words front last laid

    one : (k : ℕ) (d : Place) → k < length front → IsWithin stem words (get_or front k d)
    one k d low = rw (get_or_append_left front (last ∷ []) d k low) at
        (laid.within k d (omega (arith, length_push front last)))
