-- What is known of the events of a hart, and of one that follows them.
use Rattle.rv_hart.proofs.Common.{◌≡◌, ℕ, suc, ◌+◌, ◌<◌, ◌≤◌, ◌==◌, true, List, [], ◌∷◌, ◌++◌, length, get_or}
use Rattle.rv_hart.proofs.Common.{Contains, All, None, ◌⊎◌, inl, inr, refl, sym, ap, ◌∙◌, arith, subst, append-nil}
use Rattle.rv_hart.proofs.Common.{append_assoc, eq-eqb, length_push, Contains-get_or, Contains-push_cases}
use Rattle.rv_hart.proofs.Common.{Contains-append_left, same_Some, rules, common_steps, Contains-here}
use Rattle.rv_hart.proofs.Common.{Contains-there, Indexed, Sound, indexed-push, sound_of, split_push, event_fault}
use Rattle.rv_hart.proofs.Common.{expected, of_hart, Earlier, Dep, Event, Hart, Follows, IsHart, followed}
use Rattle.rv_hart.proofs.Common.{hart_with, IsAsked, hart_at, Next}
use Rattle.rv_event.specs.Log.{named}

-- the event depends on earlier numbers alone
abbrev pub DependsBelow : Event → Type 0
DependsBelow e = (d : Dep) → Contains e.deps d → d.seq < e.id.seq

-- what is known of a hart's events
pub record Known (h : Hart) : Type 0 where
  pub indexed : Indexed h.events
  pub own : (a : Event) → Contains h.events a → a.id.hart ≡ h.number
  -- each event stands at the place of its number
  pub at : (s : ℕ) (d : Event) → s < length h.events → (get_or h.events s d).id.seq ≡ s
  pub below : (a : Event) → Contains h.events a → a.id.seq < length h.events
  pub few : length h.events ≤ 4096
  pub deps : (a : Event) → Contains h.events a → DependsBelow a

-- what is known of an event that follows
pub record Fits (h : Hart) (e : Event) : Type 0 where
  pub known : Known h
  pub sound : Sound h.events e
  pub hart : e.id.hart ≡ h.number
  pub seq : e.id.seq ≡ length h.events
  pub room : length h.events < 4096
  pub deps : DependsBelow e

-- without a fault an event depends on earlier numbers alone
depends_below : (log : List Event) (e : Event) → event_fault log e ≡ None → DependsBelow e
depends_below log e none d c = grind (arith, common_steps)

-- where all events are of one hart, they are the hart's events
own-length : (hart : ℕ) (xs : List Event) → ((a : Event) → Contains xs a → a.id.hart ≡ hart) →
    length (of_hart hart xs) ≡ length xs
own-length hart [] own = refl
own-length hart (x ∷ xs) own =
    let again : length (of_hart hart xs) ≡ length xs = own-length hart xs (λ a c. own a (Contains-there x xs a c)) in
    let here : (hart == x.id.hart) ≡ true = eq-eqb hart x.id.hart (sym (own x (Contains-here x xs x refl))) in
    rw here (ap suc again)

-- an event that follows fits
pub fits_from : (h : Hart) (e : Event) → Known h → Follows h e → Fits h e
fits_from h e known follows =
    let sound : Sound h.events e = sound_of h.events e follows.sound in
    let count : expected h.events e ≡ length h.events = ap (λ (n : ℕ). length (of_hart n h.events)) follows.hart ∙
    own-length h.number h.events known.own in
    let seq : e.id.seq ≡ expected h.events e = sound.seq in
    let room : expected h.events e < 4096 = sound.room in
    record {
      known = known;
      sound = sound;
      hart = follows.hart;
      seq = seq ∙ count;
      room = omega arith;
      deps = depends_below h.events e follows.sound;
    }

module _ {h : Hart} {e : Event} (f : Fits h e) where
  grown : length (followed h e) ≡ length h.events + 1
  grown = length_push h.events e

  own' : (a : Event) → Contains (followed h e) a → a.id.hart ≡ h.number
  own' a c = elim (Contains-push_cases h.events e a c)
      [ inl old ↦ f.known.own a old | inr is ↦ subst (λ (x : Event). x.id.hart ≡ h.number) is f.hart ]

  at' : (s : ℕ) (d : Event) → s < length (followed h e) → (get_or (followed h e) s d).id.seq ≡ s
  at' s d low = grind (arith, common_steps)

  below' : (a : Event) → Contains (followed h e) a → a.id.seq < length (followed h e)
  below' a c = go (Contains-push_cases h.events e a c)
    where
      go : Contains h.events a ⊎ (e ≡ a) → a.id.seq < length (followed h e)
      go (inl old) = let low = f.known.below a old in omega (arith, grown)
      go (inr is) = grind (arith, common_steps)

  deps' : (a : Event) → Contains (followed h e) a → DependsBelow a
  deps' a c = elim (Contains-push_cases h.events e a c)
      [ inl old ↦ f.known.deps a old | inr is ↦ subst DependsBelow is f.deps ]

  -- the hart with the event is known
  pub known_with : Known (hart_with h e)
  known_with = record {
    indexed = indexed-push h.events e f.known.indexed f.sound;
    own = own';
    at = at';
    below = below';
    few = let room = f.room in omega (arith, grown);
    deps = deps';
  }

known-nil : (h : Hart) → Known (record h { events = [] })
known-nil h = grind (arith, common_steps)

known_from : (h : Hart) (before rest : List Event) → IsHart h → h.events ≡ before ++ rest →
    Known (record h { events = before }) → Known h
known_from h before [] ok is known = subst (λ (es : List Event). Known (record h { events = es }))
    (sym (is ∙ append-nil before)) known
known_from h before (e ∷ rest) ok is known =
    known_from h (before ++ e ∷ []) rest ok (is ∙ sym (append_assoc before (e ∷ []) rest))
    (known_with (fits_from (record h { events = before }) e known (ok before rest e is)))

-- a hart is known
pub known_of : (h : Hart) → IsHart h → Known h
known_of h ok = known_from h [] h.events ok refl (known-nil h)

-- so an event that follows a hart fits
pub fits_of : (h : Hart) (e : Event) → IsHart h → Follows h e → Fits h e
fits_of h e ok follows = fits_from h e (known_of h ok) follows

-- the next event of a hart fits
pub fits : {n : Next} → IsAsked n → Fits (hart_at n) n.event.now
fits {n} asked = fits_of (hart_at n) n.event.now asked.next.kept.hart asked.next.follows

-- the hart with the event is a hart
pub hart-push : (h : Hart) (e : Event) → IsHart h → Follows h e → IsHart (hart_with h e)
hart-push h e ok follows before after x is = search (split_push, rules)

-- and without its last event
pub hart-front : (h : Hart) (front : List Event) (e : Event) → IsHart h → h.events ≡ front ++ e ∷ [] →
    IsHart (record h { events = front })
hart-front h front e ok is before after x cut = grind (arith, common_steps)

-- which followed the others
pub hart-last : (h : Hart) (front : List Event) (e : Event) → IsHart h → h.events ≡ front ++ e ∷ [] →
    Follows (record h { events = front }) e
hart-last h front e ok is = ok front [] e is

-- events of one number are one event
pub same_event : {h : Hart} → Known h → (a b : Event) → Contains h.events a → Contains h.events b →
    a.id.seq ≡ b.id.seq → a ≡ b
same_event {h} known a b ca cb seq =
    let hart : a.id.hart ≡ b.id.hart = known.own a ca ∙ sym (known.own b cb) in
    let same : a.id ≡ b.id = grind arith in
    same_Some a b (sym (known.indexed.own a ca) ∙ ap (named h.events) same ∙ known.indexed.own b cb)

-- an event is the one at the place of its number
pub event_at : {h : Hart} → Known h → (a d : Event) → Contains h.events a → get_or h.events a.id.seq d ≡ a
event_at {h} known a d ca = grind (arith, common_steps)

-- what follows is after each event
pub follows_all : {h : Hart} {e : Event} → Fits h e → (a : Event) → Contains h.events a → Earlier a e
follows_all {h} {e} f a c = search rules

-- an event that is earlier than what follows is an old one
pub earlier_old : {h : Hart} {e : Event} → Fits h e → (m : Event) → Contains (followed h e) m → Earlier m e →
    Contains h.events m
earlier_old {h} {e} f m c earlier = grind (arith, common_steps)

-- an old event is one of the new list
pub old_new : (h : Hart) (e a : Event) → Contains h.events a → Contains (followed h e) a
old_new h e a c = Contains-append_left h.events (e ∷ []) a c

-- what is read at an event's number is the event
pub read_is : {h : Hart} → Known h → (w x : Event) (n : ℕ) → Contains h.events w → w.id.seq ≡ n →
    x ≡ get_or h.events n x → x ≡ w
read_is {h} known w x n cw at read = read ∙ ap (λ (k : ℕ). get_or h.events k x) (sym at) ∙ event_at known w x cw

-- an event's number is below the limit on numbers
pub number-few : {h : Hart} → Known h → (a : Event) → Contains h.events a → a.id.seq < 4096
number-few {h} known a ca = grind (arith, common_steps)

-- dependencies stand below the limit on numbers
pub deps-few : {h : Hart} → Known h → (w : Event) → Contains h.events w → All (λ d. d.seq < 4096) w.deps
deps-few {h} known w cw k d low =
    let below : (get_or w.deps k d).seq < w.id.seq =
    known.deps w cw (get_or w.deps k d) (Contains-get_or w.deps k d low) in
    let within = known.below w cw in
    let few = known.few in
    omega arith

-- its dependencies have small numbers
pub own-deps-few : {h : Hart} {e : Event} → Fits h e → All (λ d. d.seq < 4096) e.deps
own-deps-few {h} {e} f k d low =
    let below : (get_or e.deps k d).seq < e.id.seq = f.deps (get_or e.deps k d) (Contains-get_or e.deps k d low) in
    let at = f.seq in
    let room = f.room in
    omega arith
