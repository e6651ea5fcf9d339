-- Events of a log's entries.
use Rattle.std.proofs.Common.{Bool, List, ap, arith, cond, drop, false, get_or, if◌then◌else◌, inl, inr, length}
use Rattle.std.proofs.Common.{length-append, refl, subst, take, true, ℕ, [], ◌+◌, ◌<◌, ◌==◌, ◌∙◌, ◌∷◌}
use Rattle.std.proofs.Common.{◌≡◌, ◌≢◌, ◌≤◌, ◌⊎◌}
use Rattle.std.proofs.Math.ListN.{set}
use Rattle.std.proofs.lemmas.Bool.{cases_eq, eq-eqb, ne_eqb}
use Rattle.std.proofs.lemmas.List.{get_or-set_other, get_or-set_same, map-append, take-append-drop, take_more}
use Rattle.std.proofs.lemmas.List.Elements.{Contains-push_cases, filter-append}
use Rattle.std.specs.List.{Contains}
use Rattle.rv_event.proofs.Scans.{events-more}
use Rattle.rv_event.specs.Log.{events, of_hart}
use Rattle.rv_event.specs.declared.event.Entry.{Entry}
use Rattle.rv_event.specs.declared.event.Event.{Event}

-- what is among one more is among them, or it is the last one
pub contained-more : {X : Type 0} (xs : List X) (k : ℕ) (d x : X) → k < length xs → Contains (take (k + 1) xs) x →
    Contains (take k xs) x ⊎ (get_or xs k d ≡ x)
contained-more {X} xs k d x low c =
    Contains-push_cases (take k xs) (get_or xs k d) x
    (subst (λ (ys : List X). Contains ys x) (take_more xs k d low) c)

-- what is among them is among the others, or it is the last one
pub event-more : (log : List Entry) (k : ℕ) (x : Entry) (p : Event) → k < length log → x ≡ get_or log k x →
    Contains (events (take (k + 1) log)) p → Contains (events (take k log)) p ⊎ (x.event ≡ p)
event-more log k x p low is c =
    Contains-push_cases (events (take k log)) x.event p
    (subst (λ (es : List Event). Contains es p) (events-more log k low x is) c)

-- a hart's events of one entry more
pub count-more : (log : List Entry) (k : ℕ) (x : Entry) (hart : ℕ) → k < length log → x ≡ get_or log k x →
    length (of_hart hart (events (take (k + 1) log)))
    ≡ length (of_hart hart (events (take k log))) + (if hart == x.event.id.hart then 1 else 0)
count-more log k x hart low is =
    ap (λ (es : List Event). length (of_hart hart es)) (events-more log k low x is)
    ∙ ap (λ (es : List Event). length es)
    (filter-append (λ (e : Event). hart == e.id.hart) (events (take k log)) (x.event ∷ []))
    ∙ length-append (of_hart hart (events (take k log))) (of_hart hart (x.event ∷ []))
    ∙ ap (λ (n : ℕ). length (of_hart hart (events (take k log))) + n) (one (hart == x.event.id.hart))
  where
    one : (b : Bool) → length (cond b (x.event ∷ []) []) ≡ (if b then 1 else 0)
    one true = refl
    one false = refl

-- the first entries have no more events of a hart than all of them
pub count-prefix : (log : List Entry) (k : ℕ) (hart : ℕ) →
    length (of_hart hart (events (take k log))) ≤ length (of_hart hart (events log))
count-prefix log k hart =
    let whole = ap (λ (xs : List Entry). length (of_hart hart (events xs))) (take-append-drop k log) in
    let parts = ap (λ (es : List Event). length (of_hart hart es))
    (map-append (λ (y : Entry). y.event) (take k log) (drop k log))
    ∙ ap (λ (es : List Event). length es)
    (filter-append (λ (e : Event). hart == e.id.hart) (events (take k log)) (events (drop k log)))
    ∙ length-append (of_hart hart (events (take k log))) (of_hart hart (events (drop k log))) in
    omega (arith, whole, parts)

-- one number of a list is one more
pub set-more : (xs : List ℕ) (h hart old : ℕ) → h < length xs → get_or xs hart 0 ≡ old →
    get_or (set xs h (get_or xs h 0 + 1)) hart 0 ≡ old + (if hart == h then 1 else 0)
set-more xs h hart old low is = go (cases_eq hart h)
  where
    go : (hart ≡ h) ⊎ (hart ≢ h) → get_or (set xs h (get_or xs h 0 + 1)) hart 0 ≡ old + (if hart == h then 1 else 0)
    go (inl same) =
        let at = ap (λ (n : ℕ). get_or (set xs h (get_or xs h 0 + 1)) n 0) same
        ∙ get_or-set_same xs h (get_or xs h 0 + 1) 0 low in
        let before = ap (λ (n : ℕ). get_or xs n 0) same in
        rw (eq-eqb hart h same) (omega (arith, at, before, is))
    go (inr other) =
        let at = get_or-set_other xs h hart (get_or xs h 0 + 1) 0 other in
        rw (ne_eqb hart h other) (omega (arith, at, is))
