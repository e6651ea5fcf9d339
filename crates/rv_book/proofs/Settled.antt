-- Entries that wait for no store.
use Rattle.rv_book.proofs.Common.{◌≡◌, ℕ, suc, ◌+◌, Bool, false, cond, List, [], ◌∷◌, ◌++◌}
use Rattle.rv_book.proofs.Common.{length, take, drop, sym, ◌∙◌, arith, ap, refl}
use Rattle.rv_book.proofs.Common.{common_steps, Event, Entry, events}
use Rattle.std.specs.Prelude.{count_by}
use Rattle.std.specs.List.{All, filter}
use Rattle.std.proofs.lemmas.List.{take-append-drop, take-append-le, length-append, map-append}
use Rattle.std.proofs.lemmas.List.Elements.{All-weaker, filter-append}
use Rattle.std.proofs.lemmas.List.Sums.{length-filter}
use Rattle.std.proofs.lemmas.List.Folds.{find-append}
use Rattle.rv_book.specs.Counts.{AreSettled, is_waiting, waiting_of}

-- the counts of two lists add up
count_append : {X : Type 0} (p : X → Bool) (xs ys : List X) → count_by p (xs ++ ys) ≡ count_by p xs + count_by p ys
count_append p xs ys =
    let whole = length-filter p (xs ++ ys) in
    let first = length-filter p xs in
    let rest = length-filter p ys in
    let sum = ap length (filter-append p xs ys) in
    omega (arith, whole, first, rest, sum, length-append (filter p xs) (filter p ys))

-- where none passes nothing is left
filter_none : {X : Type 0} (p : X → Bool) (xs : List X) → All (λ x. p x ≡ false) xs → filter p xs ≡ []
filter_none p [] h = refl
filter_none p (x ∷ xs) h =
    let rest = filter_none p xs (λ k d l. h (suc k) d (omega arith)) in
    ap (λ b. cond b (x ∷ filter p xs) (filter p xs)) (h 0 x (omega arith)) ∙ rest

-- and the count is 0
count_none : {X : Type 0} (p : X → Bool) (xs : List X) → All (λ x. p x ≡ false) xs → count_by p xs ≡ 0
count_none p xs h = sym (length-filter p xs) ∙ ap length (filter_none p xs h)

-- a load that waits for no store waits for none in a longer log
pub settled_stays : (log more : List Event) (e : Event) → is_waiting log e ≡ false →
    is_waiting (log ++ more) e ≡ false
settled_stays log more e h = grind (arith, common_steps, find-append)

-- the entries behind the place have all that wait
pub settled_count : (log : List Entry) (place : ℕ) → AreSettled log place →
    count_by (λ x. is_waiting (events log) x.event) (drop place log) ≡ waiting_of log
settled_count log place h =
    let test : Entry → Bool = λ x. is_waiting (events log) x.event in
    let none = count_none test (take place log) h.none in
    let sum = count_append test (take place log) (drop place log) in
    let whole = ap (count_by test) (take-append-drop place log) in
    omega (arith, none, sum, whole)

-- a longer log is settled up to the same place
pub settled_push : (log new : List Entry) (x : Entry) (place : ℕ) → new ≡ log ++ x ∷ [] → AreSettled log place →
    AreSettled new place
settled_push log new x place is h = rw is (record {
  within = omega (arith, h.within, length-append log (x ∷ []));
  none =
      let weaker = All-weaker (λ y. is_waiting (events log) y.event ≡ false)
      (λ y. is_waiting (events (log ++ x ∷ [])) y.event ≡ false)
      (λ y w. rw (map-append (λ (z : Entry). z.event) log (x ∷ []))
      (settled_stays (events log) (x.event ∷ []) y.event w)) (take place log) h.none in
      rw (take-append-le place log (x ∷ []) h.within) weaker;
})
