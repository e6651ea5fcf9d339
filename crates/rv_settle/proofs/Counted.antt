-- A hart's events by their numbers: those that are forgotten stand before those that are kept.
use Rattle.std.proofs.Common.{ℕ, ◌++◌, ◌+◌, ◌∷◌, ◌≡◌, ◌⊎◌, ◌∙◌, ◌<◌, ◌≤◌, ◌-◌, ◌==◌, [], Bool, Contains}
use Rattle.std.proofs.Common.{List, None, Option, Some, ap, arith, cond, false, filter, find, get_or, inl, inr}
use Rattle.std.proofs.Common.{length, map, option_map, refl, reverse, suc, suc-le-suc, sym}
use Rattle.std.proofs.Common.{true, unwrap_or, zero, zero-lt-suc}
use Rattle.std.specs.Prelude.{nat_le, nat_lt}
use Rattle.std.proofs.lemmas.Bool.{cases_lt}
use Rattle.std.proofs.lemmas.Grind.{common_steps}
use Rattle.std.proofs.lemmas.List.{map-append, reverse-append}
use Rattle.std.proofs.lemmas.List.Elements.{All-contains, filter_passes}
use Rattle.rv_event.proofs.Growing.{filter-map}
use Rattle.rv_event.proofs.Names.{Contains-here, Contains-there}
use Rattle.rv_event.specs.Faults.{is_lr}
use Rattle.rv_event.specs.Log.{events, of_hart}
use Rattle.rv_event.specs.Operations.{is_exclusive}
use Rattle.rv_event.specs.declared.event.Entry.{Entry}
use Rattle.rv_event.specs.declared.event.Event.{Event}
use Rattle.rv_settle.specs.Windows.{renumbered, window}

-- to map twice is to map once
map-twice : {X Y Z : Type 0} (f : X → Y) (g : Y → Z) (xs : List X) → map g (map f xs) ≡ map (λ x. g (f x)) xs
map-twice f g [] = refl
map-twice f g (x ∷ xs) = ap (λ ys. g (f x) ∷ ys) (map-twice f g xs)

-- two filters may be exchanged
filter-swap : {X : Type 0} (p q : X → Bool) (xs : List X) → filter p (filter q xs) ≡ filter q (filter p xs)
filter-swap p q [] = refl
filter-swap {X} p q (x ∷ xs) = go (p x) (q x) refl refl (filter-swap p q xs)
  where
    go : (b d : Bool) → p x ≡ b → q x ≡ d → filter p (filter q xs) ≡ filter q (filter p xs) →
        filter p (cond d (x ∷ filter q xs) (filter q xs)) ≡ filter q (cond b (x ∷ filter p xs) (filter p xs))
    go true true e f again = rw (e, f, again)
    go true false e f again = rw (f, again)
    go false true e f again = rw (e, again)
    go false false e f again = again

-- tests that agree on the elements keep the same ones
pub filter-same : {X : Type 0} (p q : X → Bool) (xs : List X) → ((x : X) → Contains xs x → p x ≡ q x) →
    filter p xs ≡ filter q xs
filter-same p q [] same = refl
filter-same {X} p q (x ∷ xs) same =
    go (p x) refl (sym (same x (Contains-here x xs x refl)))
    (filter-same p q xs (λ y c. same y (Contains-there x xs y c)))
  where
    go : (b : Bool) → p x ≡ b → q x ≡ p x → filter p xs ≡ filter q xs →
        cond b (x ∷ filter p xs) (filter p xs) ≡ cond (q x) (x ∷ filter q xs) (filter q xs)
    go true e f again = rw (f, e, again)
    go false e f again = rw (f, e, again)

-- a search in what was mapped
pub find-map : {X Y : Type 0} (f : X → Y) (p : Y → Bool) (xs : List X) →
    find p (map f xs) ≡ option_map f (find (λ x. p (f x)) xs)
find-map f p [] = refl
find-map {X} {Y} f p (x ∷ xs) = go (p (f x)) (find-map f p xs)
  where
    go : (b : Bool) → find p (map f xs) ≡ option_map f (find (λ y. p (f y)) xs) →
        cond b (Some (f x)) (find p (map f xs)) ≡ option_map f (cond b (Some x) (find (λ y. p (f y)) xs))
    go true again = refl
    go false again = again

-- what was mapped, from its end
pub reverse-map : {X Y : Type 0} (f : X → Y) (xs : List X) → reverse (map f xs) ≡ map f (reverse xs)
reverse-map f [] = refl
reverse-map f (x ∷ xs) =
    reverse-append (f x ∷ []) (map f xs) ∙ ap (λ ys. ys ++ f x ∷ []) (reverse-map f xs) ∙
    sym (map-append f (reverse xs) (x ∷ [])) ∙ ap (map f) (sym (reverse-append (x ∷ []) xs))

-- the events have the numbers from s on
abbrev pub CountsFrom : ℕ → List Event → Type 0
CountsFrom s es = (k : ℕ) (d : Event) → k < length es → (get_or es k d).id.seq ≡ s + k

pub counts-here : (s : ℕ) (e : Event) (es : List Event) → CountsFrom s (e ∷ es) → e.id.seq ≡ s
counts-here s e es counts = let at = counts zero e (zero-lt-suc (length es)) in omega (arith, at)

pub counts-rest : (s : ℕ) (e : Event) (es : List Event) → CountsFrom s (e ∷ es) → CountsFrom (suc s) es
counts-rest s e es counts k d low = let at = counts (suc k) d (suc-le-suc low) in omega (arith, at)

pub counts-behind : (s : ℕ) (xs ys : List Event) → CountsFrom s (xs ++ ys) → CountsFrom (s + length xs) ys
counts-behind s [] ys counts k d low = let at = counts k d low in omega (arith, at)
counts-behind s (x ∷ xs) ys counts k d low =
    let at = counts-behind (suc s) xs ys (counts-rest s x (xs ++ ys) counts) k d low in omega (arith, at)

pub counts-front : (s : ℕ) (xs ys : List Event) → CountsFrom s (xs ++ ys) → CountsFrom s xs
counts-front s [] ys counts k d low = absurd (omega (arith, low))
counts-front s (x ∷ xs) ys counts zero d low = let at = counts-here s x (xs ++ ys) counts in omega (arith, at)
counts-front s (x ∷ xs) ys counts (suc k) d low =
    let at = counts-front (suc s) xs ys (counts-rest s x (xs ++ ys) counts) k d (omega (arith, low)) in
    omega (arith, at)

-- whether the number is below m, or not
abbrev pub is_low : ℕ → Event → Bool
is_low m e = nat_lt e.id.seq m

abbrev pub is_high : ℕ → Event → Bool
is_high m e = nat_le m e.id.seq

pub low-true : (m : ℕ) (e : Event) → e.id.seq < m → is_low m e ≡ true
low-true m e less = grind (arith, common_steps)

low-false : (m : ℕ) (e : Event) → m ≤ e.id.seq → is_low m e ≡ false
low-false m e least = grind (arith, common_steps)

pub high-true : (m : ℕ) (e : Event) → m ≤ e.id.seq → is_high m e ≡ true
high-true m e least = grind (arith, common_steps)

high-false : (m : ℕ) (e : Event) → e.id.seq < m → is_high m e ≡ false
high-false m e less = grind (arith, common_steps)

pub low-lower : (m : ℕ) (e : Event) → is_low m e ≡ true → e.id.seq < m
low-lower m e passes = grind (arith, common_steps)

-- from number m on all are high
all-high : (m s : ℕ) (es : List Event) → CountsFrom s es → m ≤ s → filter (is_high m) es ≡ es
all-high m s [] counts least = refl
all-high m s (e ∷ es) counts least =
    let here = counts-here s e es counts in
    let high = high-true m e (omega (arith, here, least)) in
    let again = all-high m (suc s) es (counts-rest s e es counts) (omega (arith, least)) in
    rw (high, again)

-- and none is low
pub none-low : (m s : ℕ) (es : List Event) → CountsFrom s es → m ≤ s → filter (is_low m) es ≡ []
none-low m s [] counts least = refl
none-low m s (e ∷ es) counts least =
    let here = counts-here s e es counts in
    let low = low-false m e (omega (arith, here, least)) in
    let again = none-low m (suc s) es (counts-rest s e es counts) (omega (arith, least)) in
    rw (low, again)

-- so many are high
pub count-high : (m s : ℕ) (es : List Event) → CountsFrom s es → s ≤ m →
    length (filter (is_high m) es) ≡ (s + length es) - m
count-high m s [] counts most = omega (arith, most)
count-high m s (e ∷ es) counts most =
    go (cases_lt s m) (λ less. count-high m (suc s) es (counts-rest s e es counts) less)
  where
    go : (s < m) ⊎ (m ≤ s) → (s < m → length (filter (is_high m) es) ≡ (suc s + length es) - m) →
        length (filter (is_high m) (e ∷ es)) ≡ (s + length (e ∷ es)) - m
    go (inl less) again =
        let here = counts-here s e es counts in
        let high = high-false m e (omega (arith, here, less)) in
        let rest = again less in
        rw high (omega (arith, rest))
    go (inr least) again = rw (all-high m s (e ∷ es) counts least) (omega (arith, least, most))

-- the low ones stand before the high ones
pub low-high : (m s : ℕ) (es : List Event) → CountsFrom s es → es ≡ filter (is_low m) es ++ filter (is_high m) es
low-high m s [] counts = refl
low-high m s (e ∷ es) counts = go (cases_lt s m) (low-high m (suc s) es (counts-rest s e es counts))
  where
    go : (s < m) ⊎ (m ≤ s) → es ≡ filter (is_low m) es ++ filter (is_high m) es →
        e ∷ es ≡ filter (is_low m) (e ∷ es) ++ filter (is_high m) (e ∷ es)
    go (inl less) again =
        let here = counts-here s e es counts in
        let low = low-true m e (omega (arith, here, less)) in
        let high = high-false m e (omega (arith, here, less)) in
        rw (low, high) (ap (λ ys. e ∷ ys) again)
    go (inr least) again = rw (none-low m s (e ∷ es) counts least, all-high m s (e ∷ es) counts least) refl

-- the events of the window are the events that are kept
pub events-window : (first : ℕ → ℕ) (log : List Entry) → events (window first log) ≡ map (renumbered first)
    (filter (λ (e : Event). nat_le (first e.id.hart) e.id.seq) (events log))
events-window first log =
    map-twice (λ (x : Entry). record x { event = renumbered first x.event }) (λ (x : Entry). x.event)
    (filter (λ (x : Entry). nat_le (first x.event.id.hart) x.event.id.seq) log) ∙
    sym (map-twice (λ (x : Entry). x.event) (renumbered first)
    (filter (λ (x : Entry). nat_le (first x.event.id.hart) x.event.id.seq) log)) ∙
    ap (map (renumbered first)) (sym (filter-map (λ (x : Entry). x.event)
    (λ (e : Event). nat_le (first e.id.hart) e.id.seq) log))

-- a hart's events are of the hart
pub of_hart-is : (h : ℕ) (es : List Event) (e : Event) → Contains (of_hart h es) e → e.id.hart ≡ h
of_hart-is h es e c =
    let passes = All-contains (λ (x : Event). (h == x.id.hart) ≡ true) (of_hart h es) e
    (filter_passes (λ (x : Event). h == x.id.hart) es) c in
    grind (arith, common_steps)

-- a hart's events of the window are its high ones
pub own-window : (first : ℕ → ℕ) (h : ℕ) (log : List Entry) → of_hart h (events (window first log)) ≡
    map (renumbered first) (filter (is_high (first h)) (of_hart h (events log)))
own-window first h log =
    ap (of_hart h) (events-window first log) ∙
    filter-map (renumbered first) (λ (e : Event). h == e.id.hart)
    (filter (λ (e : Event). nat_le (first e.id.hart) e.id.seq) (events log)) ∙
    ap (map (renumbered first)) (filter-swap (λ (e : Event). h == e.id.hart)
    (λ (e : Event). nat_le (first e.id.hart) e.id.seq) (events log) ∙
    filter-same (λ (e : Event). nat_le (first e.id.hart) e.id.seq) (is_high (first h)) (of_hart h (events log))
    (λ e c. ap (λ (k : ℕ). nat_le (first k) e.id.seq) (of_hart-is h (events log) e c)))

-- and of what is forgotten, its low ones
pub own-forgotten : (first : ℕ → ℕ) (h : ℕ) (es : List Event) →
    of_hart h (filter (λ (e : Event). nat_lt e.id.seq (first e.id.hart)) es) ≡ filter (is_low (first h)) (of_hart h es)
own-forgotten first h es =
    filter-swap (λ (e : Event). h == e.id.hart) (λ (e : Event). nat_lt e.id.seq (first e.id.hart)) es ∙
    filter-same (λ (e : Event). nat_lt e.id.seq (first e.id.hart)) (is_low (first h)) (of_hart h es)
    (λ e c. ap (λ (k : ℕ). nat_lt e.id.seq (first k)) (of_hart-is h es e c))

-- whether the last LR, SC or failed SC of a list is an LR
abbrev pub ends_reserved : List Event → Bool
ends_reserved es =
    unwrap_or (option_map (λ (m : Event). is_lr m.op) (find (λ (m : Event). is_exclusive m.op) (reverse es))) false

-- events that are renumbered end as they did
pub ends-renumbered : (first : ℕ → ℕ) (es : List Event) → ends_reserved (map (renumbered first) es) ≡ ends_reserved es
ends-renumbered first es =
    go (find (λ (m : Event). is_exclusive m.op) (reverse es))
    (ap (find (λ (m : Event). is_exclusive m.op)) (reverse-map (renumbered first) es) ∙
    find-map (renumbered first) (λ (m : Event). is_exclusive m.op) (reverse es))
  where
    go : (o : Option Event) → find (λ (m : Event). is_exclusive m.op) (reverse (map (renumbered first) es)) ≡
        option_map (renumbered first) o →
        unwrap_or (option_map (λ (m : Event). is_lr m.op)
        (find (λ (m : Event). is_exclusive m.op) (reverse (map (renumbered first) es)))) false ≡
        unwrap_or (option_map (λ (m : Event). is_lr m.op) o) false
    go (Some m) is = ap (λ (o : Option Event). unwrap_or (option_map (λ (k : Event). is_lr k.op) o) false) is
    go None is = ap (λ (o : Option Event). unwrap_or (option_map (λ (k : Event). is_lr k.op) o) false) is
