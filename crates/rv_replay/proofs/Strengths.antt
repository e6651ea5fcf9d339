-- Loads that are put back.
use Rattle.rv_replay.proofs.Common.{◌≡◌, ◌≤◌, ◌<◌, ◌+◌, ◌∙◌, ℕ, List, [], ◌∷◌, ◌++◌, arith, ap, common_steps, get_or}
use Rattle.rv_replay.proofs.Common.{inl, inr, length, subst, suc, sym, take, Entry, MemoryModel, IsConsistent}
use Rattle.std.proofs.Common.{◌*◌, ◌/◌, Bool, true, false, max, min, set, zero, refl, if◌then◌else◌}
use Rattle.std.proofs.Math.Nat.{div-lt_iff_lt-mul, mul-lt-mul_of_pos_right, mul_comm, mul-le-mul_right}
use Rattle.std.proofs.lemmas.List.{take_more}
use Rattle.std.proofs.lemmas.List.Elements.{filter-append}
use Rattle.std.proofs.lemmas.List.Sums.{fold-append}
use Rattle.std.proofs.lemmas.List.FromFn.{get_or-map-range_with_len, length-map-range_with_len}
use Rattle.rv_replay.specs.Strengths.{AreRefused, chosen, has_older, older_version, places, places_from, put_back_at}
use Rattle.rv_replay.specs.Strengths.{returned, returned_at, wrote_older}

-- ---- older versions
-- the older version in a log with one entry more
older-found : (log : List Entry) (x : Entry) (word version : ℕ) → wrote_older word version x.event ≡ true →
    older_version (log ++ x ∷ []) word version ≡ max (older_version log word version) x.event.wrote
older-found log x word version is = grind (arith, common_steps, filter-append, fold-append)

older-other : (log : List Entry) (x : Entry) (word version : ℕ) → wrote_older word version x.event ≡ false →
    older_version (log ++ x ∷ []) word version ≡ older_version log word version
older-other log x word version is = grind (arith, common_steps, filter-append, fold-append)

-- the entries of a log so far, with the next one
next : (log : List Entry) (i : ℕ) (x : Entry) → i < length log → x ≡ get_or log i x →
    take (i + 1) log ≡ take i log ++ x ∷ []
next log i x low is = take_more log i x low ∙ ap (λ (y : Entry). take i log ++ y ∷ []) (sym is)

pub older-yes : (log : List Entry) (i : ℕ) (x : Entry) (word version now : ℕ) → i < length log → x ≡ get_or log i x →
    wrote_older word version x.event ≡ true → now ≡ older_version (take i log) word version →
    max now x.event.wrote ≡ older_version (take (i + 1) log) word version
older-yes log i x word version now low is one before =
    ap (λ (v : ℕ). max v x.event.wrote) before ∙ sym (older-found (take i log) x word version one)
    ∙ ap (λ (l : List Entry). older_version l word version) (sym (next log i x low is))

pub older-no : (log : List Entry) (i : ℕ) (x : Entry) (word version now : ℕ) → i < length log → x ≡ get_or log i x →
    wrote_older word version x.event ≡ false → now ≡ older_version (take i log) word version →
    now ≡ older_version (take (i + 1) log) word version
older-no log i x word version now low is none before =
    before ∙ sym (older-other (take i log) x word version none)
    ∙ ap (λ (l : List Entry). older_version l word version) (sym (next log i x low is))

-- ---- the log in which a load is put back
-- is the log with another entry there
pub returned_at-set : (version : ℕ) (log : List Entry) (n : ℕ) (d : Entry) → n < length log →
    set log n (returned version (get_or log n d)) ≡ returned_at version log n
returned_at-set version [] n d low = absurd (omega (arith, low))
returned_at-set version (x ∷ rest) zero d low = refl
returned_at-set version (x ∷ rest) (suc n) d low =
    ap (λ (l : List Entry). x ∷ l) (returned_at-set version rest n d (omega (arith, low)))

-- put back it is that of the older version
pub put_back_at-returned : (log rest : List Entry) (n : ℕ) (d : Entry) → n < length rest →
    returned_at (older_version log (get_or rest n d).event.word (get_or rest n d).event.read) rest n
    ≡ put_back_at log rest n
put_back_at-returned log [] n d low = absurd (omega (arith, low))
put_back_at-returned log (x ∷ rest) zero d low = refl
put_back_at-returned log (x ∷ rest) (suc n) d low =
    ap (λ (l : List Entry). x ∷ l) (put_back_at-returned log rest n d (omega (arith, low)))

-- and with what it had returned it is the log again
pub returned_at-again : (version : ℕ) (log : List Entry) (n : ℕ) (d : Entry) → n < length log →
    returned_at (get_or log n d).event.read (returned_at version log n) n ≡ log
returned_at-again version [] n d low = absurd (omega (arith, low))
returned_at-again version (x ∷ rest) zero d low = refl
returned_at-again version (x ∷ rest) (suc n) d low =
    ap (λ (l : List Entry). x ∷ l) (returned_at-again version rest n d (omega (arith, low)))

pub length-returned_at : (version : ℕ) (log : List Entry) (n : ℕ) → length (returned_at version log n) ≡ length log
length-returned_at version [] n = refl
length-returned_at version (x ∷ rest) zero = refl
length-returned_at version (x ∷ rest) (suc n) = ap suc (length-returned_at version rest n)

-- ---- places
-- there are no more than entries
pub places_from-few : (n : ℕ) (log : List Entry) → length (places_from n log) ≤ length log
places_from-few n [] = omega arith
places_from-few n (x ∷ log) = go (has_older x.event) (places_from-few (n + 1) log)
  where
    go : (b : Bool) → length (places_from (n + 1) log) ≤ length log →
        length (if b then n ∷ places_from (n + 1) log else places_from (n + 1) log) ≤ suc (length log)
    go true rest = omega (arith, rest)
    go false rest = omega (arith, rest)

-- each is that of an entry
places-low : (n : ℕ) (log : List Entry) (i : ℕ) → i < length (places_from n log) →
    get_or (places_from n log) i 0 < n + length log
places-low n [] i low = absurd (omega (arith, low))
places-low n (x ∷ log) i low = go (has_older x.event) (places-low (n + 1) log) i low
  where
    go : (b : Bool) →
        ((j : ℕ) → j < length (places_from (n + 1) log) → get_or (places_from (n + 1) log) j 0 < n + 1 + length log) →
        (j : ℕ) → j < length (if b then n ∷ places_from (n + 1) log else places_from (n + 1) log) →
        get_or (if b then n ∷ places_from (n + 1) log else places_from (n + 1) log) j 0 < n + suc (length log)
    go true rest zero below = omega arith
    go true rest (suc j) below = let within = rest j (omega (arith, below)) in omega (arith, within)
    go false rest j below = let within = rest j below in omega (arith, within)

-- the number of a chosen one is below theirs
pub chosen-below : (i k n : ℕ) → i < k → k ≤ n → i * n / k < n
chosen-below i k n low few =
    let some : 0 < n = omega (arith, low, few) in
    let whole : 0 < k = omega (arith, low) in
    let under : i * n < k * n = mul-lt-mul_of_pos_right low some in
    (div-lt_iff_lt-mul whole).1 (subst (λ (m : ℕ). i * n < m) (mul_comm k n) under)

-- so each chosen one is that of an entry
pub chosen-low : (log : List Entry) (i d : ℕ) → i < length (chosen log) → get_or (chosen log) i d < length log
chosen-low log i d low =
    let ns = places log in
    let k = min 200 (length ns) in
    let f : ℕ → ℕ = λ j. get_or ns (j * length ns / k) 0 in
    let count : length (chosen log) ≡ k = length-map-range_with_len f 0 k in
    let within : i < k = omega (arith, low, count) in
    let is : get_or (chosen log) i d ≡ f i = get_or-map-range_with_len f 0 k i i d within (omega arith) in
    let below : i * length ns / k < length ns = chosen-below i k (length ns) within (omega arith) in
    let one : f i < 0 + length log = places-low 0 log (i * length ns / k) below in
    omega (arith, is, one)

pub chosen-small : (i n : ℕ) → i ≤ 200 → n ≤ 65536 → i * n ≤ 200 * 65536
chosen-small i n low few = let under : i * n ≤ 200 * n = mul-le-mul_right n low in omega (arith, under, few)

-- ---- counts of logs that are refused
-- one more is consistent
pub AreRefused-allowed : (model : MemoryModel) (logs : List (List Entry)) (log : List Entry) (n : ℕ) →
    AreRefused model logs n → IsConsistent model log → AreRefused model (logs ++ log ∷ []) n
AreRefused-allowed model [] log n count ok = inl (ok, count)
AreRefused-allowed model (l ∷ logs) log n (inl (is, rest)) ok = inl (is, AreRefused-allowed model logs log n rest ok)
AreRefused-allowed model (l ∷ logs) log n (inr (not_so, (m, more, rest))) ok =
    inr (not_so, (m, more, AreRefused-allowed model logs log m rest ok))

-- or not
pub AreRefused-refused : (model : MemoryModel) (logs : List (List Entry)) (log : List Entry) (n : ℕ) →
    AreRefused model logs n → (IsConsistent model log → ⊥) → AreRefused model (logs ++ log ∷ []) (n + 1)
AreRefused-refused model [] log n count bad = inr (bad, (n, refl, count))
AreRefused-refused model (l ∷ logs) log n (inl (is, rest)) bad =
    inl (is, AreRefused-refused model logs log n rest bad)
AreRefused-refused model (l ∷ logs) log n (inr (not_so, (m, more, rest))) bad =
    inr (not_so, (m + 1, ap (λ (k : ℕ). k + 1) more, AreRefused-refused model logs log m rest bad))
