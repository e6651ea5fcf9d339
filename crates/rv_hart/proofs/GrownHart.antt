-- What is kept, with one more event and with one less.
use Rattle.rv_hart.proofs.Common.{◌≡◌, ℕ, suc, ◌+◌, ◌<◌, ◌≤◌, ◌↔◌, List, [], ◌∷◌, ◌++◌, length, get_or, take}
use Rattle.rv_hart.proofs.Common.{Contains, All, sym, refl, ap, ◌∙◌, arith, subst, drop, take-append-drop}
use Rattle.rv_hart.proofs.Common.{drop-cons, append_assoc, length-append, length_push, Contains-get_or}
use Rattle.rv_hart.proofs.Common.{common_steps, Event, MemoryModel, Has, has_bit, Hart, IsHart, Follows}
use Rattle.rv_hart.proofs.Common.{hart_with, hart_of, IsKept, IsBefore, RowsMean, AreSets, AreWords, Kept}
use Rattle.rv_hart.proofs.HartFacts.{Known, known_with, fits_of, Fits, hart-push, hart-front, hart-last, deps-few}
use Rattle.rv_hart.proofs.HartFacts.{number-few}
use Rattle.rv_hart.proofs.Common.{AreCarriedRows, IsCarried}
use Rattle.rv_hart.proofs.CarriedRows.{carried-pop, carried-push}
use Rattle.rv_hart.proofs.RowMeanings.{rows-push, rows-front}

-- the rows of carriers are those of the events
abbrev pub CarriedOf : List Event → List (List ℕ) → Type 0
CarriedOf events rows = AreCarriedRows events rows × (length rows ≡ length events)

-- what is kept of a hart, put together
pub kept_from : (events : List Event) (k : Kept) (h : Hart) → hart_of events k ≡ h → IsHart h → RowsMean h k.rows →
    length k.rows ≡ length events → CarriedOf events k.carried → AreSets h k.sets → AreWords events k.words →
    IsKept events k
kept_from events k h is hart rows count carried sets words = record {
  hart = subst IsHart (sym is) hart;
  rows = subst (λ (x : Hart). RowsMean x k.rows) (sym is) rows;
  count = count;
  carried = carried.0;
  carried_count = carried.1;
  sets = subst (λ (x : Hart). AreSets x k.sets) (sym is) sets;
  words = words;
}

-- the same events and rows
pub kept-same : (events : List Event) (k k' : Kept) → IsKept events k → hart_of events k' ≡ hart_of events k →
    k'.rows ≡ k.rows → k'.carried ≡ k.carried → k'.sets ≡ k.sets → AreWords events k'.words → IsKept events k'
kept-same events k k' kept is rows carried sets words =
    kept_from events k' (hart_of events k) is kept.hart (subst (RowsMean (hart_of events k)) (sym rows) kept.rows)
    (ap (λ (rs : List (List ℕ)). length rs) rows ∙ kept.count)
    (subst (CarriedOf events) (sym carried) (kept.carried, kept.carried_count))
    (subst (AreSets (hart_of events k)) (sym sets) kept.sets) words

-- one event more
pub kept-pushed : (events : List Event) (k k' : Kept) (e : Event) (row behind : List ℕ) → IsKept events k →
    Follows (hart_of events k) e → hart_of (events ++ e ∷ []) k' ≡ hart_with (hart_of events k) e →
    k'.rows ≡ k.rows ++ row ∷ [] → ((s : ℕ) → Has row s ↔ IsBefore (hart_with (hart_of events k) e) s e.id.seq) →
    k'.carried ≡ k.carried ++ behind ∷ [] → ((s : ℕ) → Has behind s ↔ IsCarried (events ++ e ∷ []) s e.id.seq) →
    AreSets (hart_with (hart_of events k) e) k'.sets → AreWords (events ++ e ∷ []) k'.words →
    IsKept (events ++ e ∷ []) k'
kept-pushed events k k' e row behind kept follows is rows mean carried means sets words =
    kept_from (events ++ e ∷ []) k' (hart_with (hart_of events k) e) is
    (hart-push (hart_of events k) e kept.hart follows)
    (subst (RowsMean (hart_with (hart_of events k) e)) (sym rows)
    (rows-push (fits_of (hart_of events k) e kept.hart follows) k.rows row kept.count kept.rows
    mean))
    (ap (λ (rs : List (List ℕ)). length rs) rows ∙ longer k.rows row kept.count)
    (subst (CarriedOf (events ++ e ∷ [])) (sym carried) (
      carried-push (fits_of (hart_of events k) e kept.hart follows) k.carried behind kept.carried kept.carried_count
          means,
      longer k.carried behind kept.carried_count,
    ))
    sets words
  where
    longer : (rs : List (List ℕ)) (r : List ℕ) → length rs ≡ length events →
        length (rs ++ r ∷ []) ≡ length (events ++ e ∷ [])
    longer rs r count = length_push rs r ∙ ap (λ (n : ℕ). n + 1) count ∙ sym (length_push events e)

-- the numbers of the new event's row are at most its own
pub row-low : {h : Hart} {e : Event} (f : Fits h e) (rows : List (List ℕ)) (row : List ℕ) →
    length rows ≡ length h.events →
    ((s : ℕ) → Has row s ↔ IsBefore (hart_with h e) s e.id.seq) → (j : ℕ) → Has row j → j ≤ length rows
row-low {h} {e} f rows row count mean j x =
    let b = (mean j).0 x in
    let low = (known_with f).below b.a b.a_of_hart in
    let at = b.a_at in
    omega (arith, length_push h.events e)

-- a row with the same numbers means the same
pub means-same : (h : Hart) (j : ℕ) (row last : List ℕ) → ((s : ℕ) → has_bit last s ≡ has_bit row s) →
    ((s : ℕ) → Has row s ↔ IsBefore h s j) → (s : ℕ) → Has last s ↔ IsBefore h s j
means-same h j row last same mean s = (λ x. (mean s).0 (sym (same s) ∙ x), λ b. same s ∙ (mean s).1 b)

-- the rows of carriers without the last
pub carried-front : (front : List Event) (k : Kept) (e : Event) (behind : List (List ℕ)) (last : List ℕ) →
    IsKept (front ++ e ∷ []) k → k.carried ≡ behind ++ last ∷ [] → CarriedOf front behind
carried-front front k e behind last kept carried = (
  carried-pop fits behind last (subst (AreCarriedRows (front ++ e ∷ [])) carried kept.carried) count,
  count,
)
  where
    fits : Fits (hart_of front k) e
    fits = fits_of (hart_of front k) e (hart-front (hart_of (front ++ e ∷ []) k) front e kept.hart refl)
        (hart-last (hart_of (front ++ e ∷ []) k) front e kept.hart refl)

    count : length behind ≡ length front
    count =
        let more = length_push behind last in
        let longer = length_push front e in
        let all = kept.carried_count in
        let is = ap (λ (rs : List (List ℕ)). length rs) carried in
        omega (more, longer, all, is, arith)

-- one event less
pub kept-popped : (front : List Event) (k k' : Kept) (e : Event) (before : List (List ℕ)) (row : List ℕ)
    (behind : List (List ℕ)) (last : List ℕ) → IsKept (front ++ e ∷ []) k → k.rows ≡ before ++ row ∷ [] →
    k.carried ≡ behind ++ last ∷ [] → hart_of front k' ≡ hart_of front k → k'.rows ≡ before → k'.carried ≡ behind →
    AreSets (hart_of front k) k'.sets → AreWords front k'.words → IsKept front k'
kept-popped front k k' e before row behind last kept rows carried is rows' carried' sets words =
    kept_from front k' h is (hart-front (hart_of (front ++ e ∷ []) k) front e kept.hart refl)
    (subst (RowsMean h) (sym rows')
    (rows-front fits before row count (subst (RowsMean (hart_with h e)) rows kept.rows)))
    (ap (λ (rs : List (List ℕ)). length rs) rows' ∙ count)
    (subst (CarriedOf front) (sym carried') (carried-front front k e behind last kept carried)) sets words
  where
    h : Hart
    h = hart_of front k

    fits : Fits (hart_of front k) e
    fits = fits_of (hart_of front k) e (hart-front (hart_of (front ++ e ∷ []) k) front e kept.hart refl)
        (hart-last (hart_of (front ++ e ∷ []) k) front e kept.hart refl)

    count : length before ≡ length front
    count = grind (arith, common_steps)

-- a list that is not empty has a last element
pub split_last : {X : Type 0} (xs : List X) → 0 < length xs → (front : List X) × (x : X) × (xs ≡ front ++ x ∷ [])
split_last [] low = absurd (omega arith)
split_last (x ∷ []) low = ([], x, refl)
split_last {X} (x ∷ (y ∷ ys)) low =
    let again : (front : List X) × (z : X) × (y ∷ ys ≡ front ++ z ∷ []) = split_last (y ∷ ys) (omega arith) in
    (x ∷ again.0, again.1, ap (λ (zs : List X). x ∷ zs) again.2)

-- numbers and dependencies of a hart's events are below the limit
pub small-events : {h : Hart} → Known h → All (λ e. (e.id.seq < 4096) × All (λ d. d.seq < 4096) e.deps) h.events
small-events {h} known k d low =
    let a : Event = get_or h.events k d in
    let ca : Contains h.events a = Contains-get_or h.events k d low in
    (number-few known a ca, deps-few known a ca)

-- the first events of a hart are a hart's, and each follows those before it
pub hart-take : (h : Hart) → IsHart h → (i : ℕ) (e : Event) → i < length h.events → e ≡ get_or h.events i e →
    Follows (record h { events = take i h.events }) e
hart-take h ok i e low is = ok (take i h.events) (drop (suc i) h.events) e (sym (take-append-drop i h.events) ∙
    ap (λ (r : List Event). take i h.events ++ r)
    (drop-cons h.events i e low ∙ ap (λ (x : Event). x ∷ drop (suc i) h.events) (sym is)))

-- the first events of a hart are a hart
pub hart-first : (h : Hart) → IsHart h → (i : ℕ) → IsHart (record h { events = take i h.events })
hart-first h ok i before after x is =
    ok before (after ++ drop i h.events) x (sym (take-append-drop i h.events) ∙
    ap (λ (es : List Event). es ++ drop i h.events) is ∙ append_assoc before (x ∷ after) (drop i h.events))

-- ---- no events
pub hart-none : (model : MemoryModel) (number : ℕ) → IsHart (record { model = model; number = number; events = [] })
hart-none model number before after e is =
    absurd (omega (arith, ap (λ (es : List Event). length es) is, length-append before (e ∷ after)))

-- no events have no rows
pub rows-none : (model : MemoryModel) (number : ℕ) (rows : List (List ℕ)) → rows ≡ [] →
    RowsMean (record { model = model; number = number; events = [] }) rows
rows-none model number rows nil j s = grind (arith, common_steps)

pub carried-none : (rows : List (List ℕ)) → rows ≡ [] → CarriedOf [] rows
carried-none rows nil = (
  record { long = omega arith; says = λ j s low. absurd (omega (low, arith)) },
  ap (λ (rs : List (List ℕ)). length rs) nil,
)
