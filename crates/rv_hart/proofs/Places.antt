-- The places of a hart's events in a log that grows and shrinks.
use Rattle.rv_hart.proofs.Common.{◌≡◌, ◌≢◌, ℕ, zero, suc, ◌+◌, ◌<◌, ◌==◌, Bool, true, false, if◌then◌else◌, List}
use Rattle.rv_hart.proofs.Common.{[], ◌∷◌, ◌++◌, length, get_or, refl, sym, ap, ◌∙◌, subst, arith, eq-eqb, ne_eqb}
use Rattle.rv_hart.proofs.Common.{common_steps, of_hart, Event, IsHartOf, IsKept, places_from, places_of}
use Rattle.rv_hart.proofs.Common.{HartOrder}

-- another hart's events stay
pub own-other : (log : List Event) (e : Event) (h : ℕ) → e.id.hart ≢ h → of_hart h (log ++ e ∷ []) ≡ of_hart h log
own-other log e h other = grind (arith, common_steps)

-- there are as many as the hart has events
pub places-count : (h n : ℕ) (log : List Event) → length (places_from h n log) ≡ length (of_hart h log)
places-count h n [] = refl
places-count h n (e ∷ log) = go (h == e.id.hart) (places-count h (n + 1) log)
  where
    go : (b : Bool) → length (places_from h (n + 1) log) ≡ length (of_hart h log) →
        length (if b then n ∷ places_from h (n + 1) log else places_from h (n + 1) log)
        ≡ length (if b then e ∷ of_hart h log else of_hart h log)
    go true again = ap suc again
    go false again = again

-- a hart without events has none
pub places-none : (h : ℕ) (log : List Event) → of_hart h log ≡ [] → places_of h log ≡ []
places-none h log none = go (places_of h log)
    (places-count h 0 log ∙ ap (λ (es : List Event). length es) none)
  where
    go : (ps : List ℕ) → length ps ≡ 0 → ps ≡ []
    go [] is = refl
    go (p ∷ ps) is = absurd (omega (arith, is))

-- what stands in the log at a place of the hart is the hart's event of that number
pub places-read : (h n : ℕ) (log : List Event) (s : ℕ) → s < length (of_hart h log) → (d : ℕ) →
    (p : ℕ) × (get_or (places_from h n log) s d ≡ n + p) × (p < length log)
    × ((x : Event) → get_or log p x ≡ get_or (of_hart h log) s x)
places-read h n [] s low d = absurd (omega (arith, low))
places-read h n (e ∷ log) s low d = go (h == e.id.hart) s low (λ t. places-read h (n + 1) log t)
  where
    go : (b : Bool) (s : ℕ) → s < length (if b then e ∷ of_hart h log else of_hart h log) →
        ((t : ℕ) → t < length (of_hart h log) → (d : ℕ) → (p : ℕ)
        × (get_or (places_from h (n + 1) log) t d ≡ n + 1 + p) × (p < length log)
        × ((x : Event) → get_or log p x ≡ get_or (of_hart h log) t x)) →
        (p : ℕ) × (get_or (if b then n ∷ places_from h (n + 1) log else places_from h (n + 1) log) s d ≡ n + p)
        × (p < suc (length log))
        × ((x : Event) → get_or (e ∷ log) p x ≡ get_or (if b then e ∷ of_hart h log else of_hart h log) s x)
    go true zero low again = (0, omega arith, omega arith, λ x. refl)
    go true (suc s) low again = let (p, at, within, is) = again s (omega (arith, low)) d in
        (suc p, omega (arith, at), omega (arith, within), is)
    go false s low again = let (p, at, within, is) = again s low d in
        (suc p, omega (arith, at), omega (arith, within), is)

-- the place of the hart's event of this number
pub record IsPlace (h : ℕ) (log : List Event) (s place : ℕ) : Type 0 where
  pub within : place < length log
  pub read : (x : Event) → get_or log place x ≡ get_or (of_hart h log) s x

-- is what the list of places has there
pub place-of : (h : ℕ) (log : List Event) (s : ℕ) → s < length (of_hart h log) → (places : List ℕ) (place : ℕ) →
    places ≡ places_of h log → place ≡ get_or places s place → IsPlace h log s place
place-of h log s low places place are is =
    let (p, at, within, read) = places-read h 0 log s low place in
    let same : place ≡ p = is ∙ ap (λ (ps : List ℕ). get_or ps s place) are ∙ at ∙ omega arith in
    record { within = omega (arith, within, same); read = λ x. ap (λ (k : ℕ). get_or log k x) same ∙ read x }

-- the place of a new event of the hart is the log's length
pub places-push : (h n : ℕ) (log : List Event) (e : Event) → e.id.hart ≡ h →
    places_from h n (log ++ e ∷ []) ≡ places_from h n log ++ (n + length log) ∷ []
places-push h n [] e own = rw (eq-eqb h e.id.hart (sym own)) (ap (λ (k : ℕ). k ∷ []) (omega arith))
places-push h n (x ∷ log) e own = go (h == x.id.hart)
    (places-push h (n + 1) log e own ∙ ap (λ (k : ℕ). places_from h (n + 1) log ++ k ∷ []) (omega arith))
  where
    go : (b : Bool) →
        places_from h (n + 1) (log ++ e ∷ []) ≡ places_from h (n + 1) log ++ (n + suc (length log)) ∷ [] →
        (if b then n ∷ places_from h (n + 1) (log ++ e ∷ []) else places_from h (n + 1) (log ++ e ∷ []))
        ≡ (if b then n ∷ places_from h (n + 1) log else places_from h (n + 1) log) ++ (n + suc (length log)) ∷ []
    go true again = ap (λ (ps : List ℕ). n ∷ ps) again
    go false again = again

-- so the places of a hart of the log get the log's length
pub places-grow : (h : ℕ) (log : List Event) (e : Event) → e.id.hart ≡ h →
    places_of h (log ++ e ∷ []) ≡ places_of h log ++ length log ∷ []
places-grow h log e own = places-push h 0 log e own ∙ ap (λ (k : ℕ). places_of h log ++ k ∷ []) (omega arith)

-- another hart's event has none
pub places-other : (h n : ℕ) (log : List Event) (e : Event) → e.id.hart ≢ h →
    places_from h n (log ++ e ∷ []) ≡ places_from h n log
places-other h n [] e other = rw (ne_eqb h e.id.hart (λ is. other (sym is))) refl
places-other h n (x ∷ log) e other = rw (places-other h (n + 1) log e other) refl

-- what is kept of a hart, over a log that has the same of it
pub hart-same : (log log' : List Event) (h h' : HartOrder) → h'.kept.number ≡ h.kept.number →
    h'.places.items ≡ places_of h.kept.number log' → IsKept (of_hart h.kept.number log') h'.kept → IsHartOf log' h'
hart-same log log' h h' number places kept = record {
  places = places ∙ ap (λ (n : ℕ). places_of n log') (sym number);
  kept = subst (λ (n : ℕ). IsKept (of_hart n log') h'.kept) (sym number) kept;
}

-- another hart's event changes nothing
pub hart-other : (log : List Event) (e : Event) (h : HartOrder) → e.id.hart ≢ h.kept.number →
    IsHartOf log h → IsHartOf (log ++ e ∷ []) h
hart-other log e h other are = record {
  places = are.places ∙ sym (places-other h.kept.number 0 log e other);
  kept = subst (λ (es : List Event). IsKept es h.kept) (sym (own-other log e h.kept.number other)) are.kept;
}

-- nor does it when it goes
pub hart-back : (log : List Event) (e : Event) (h : HartOrder) → e.id.hart ≢ h.kept.number →
    IsHartOf (log ++ e ∷ []) h → IsHartOf log h
hart-back log e h other are = record {
  places = are.places ∙ places-other h.kept.number 0 log e other;
  kept = subst (λ (es : List Event). IsKept es h.kept) (own-other log e h.kept.number other) are.kept;
}
