-- Whether the hart's last LR, SC or failed SC is an LR, and which event a number names.
use Rattle.rv_hart.proofs.Common.{◌≡◌, ℕ, zero, suc, ◌<◌, ◌≤◌, ◌==◌, Bool, true, false, cond, List, [], ◌∷◌, ◌++◌}
use Rattle.rv_hart.proofs.Common.{length, Contains, Option, Some, None, is_some, ◌⊎◌, inl, inr, refl, sym, ap}
use Rattle.rv_hart.proofs.Common.{◌∙◌, subst, arith, length-append, eq-eqb, slice_get, get_or, none-some}
use Rattle.rv_hart.proofs.Common.{slice_get_within, get_or_from_slice_get, get_or_default, common_steps}
use Rattle.rv_hart.proofs.Common.{is_exclusive, is_lr, is_reserved, named-is, Event, Id, Op, Load, Store, Lr, Sc}
use Rattle.rv_hart.proofs.Common.{ScFailed, Amo, Fence, FenceTso, Branch, Hart, Follows, IsHart, followed}
use Rattle.rv_hart.proofs.Common.{IsReservation}
use Rattle.rv_event.specs.Log.{named}
use Rattle.rv_event.specs.declared.event.Op.TheVariants.{Carrier}
use Rattle.rv_hart.proofs.HartFacts.{Known, Fits, known_of, fits_of, hart-front, hart-last}
use Rattle.rv_hart.proofs.GrownSets.{reservation-kept, reservation-new, reservation-ended}

-- a number that tells whether there is one
record Tells (h : Hart) : Type 0 where
  pub number : Option ℕ
  pub is : IsReservation h.events number
  pub tells : is_some number ≡ is_reserved h.events h.number

-- what an operation does to a reservation
data Turn (op : Op) : Type 0 where
  frees : is_exclusive op ≡ false → Turn op
  opens : op ≡ Lr → Turn op
  ends : is_exclusive op ≡ true → (op ≡ Lr → ⊥) → is_lr op ≡ false → Turn op

differs : (op : Op) → is_lr op ≡ false → op ≡ Lr → ⊥
differs op other same = grind (arith, common_steps)

turn : (op : Op) → Turn op
turn Load = frees refl
turn Store = frees refl
turn Lr = opens refl
turn Sc = ends refl (differs Sc refl) refl
turn ScFailed = ends refl (differs ScFailed refl) refl
turn Amo = frees refl
turn (Fence pred succ) = frees refl
turn FenceTso = frees refl
turn Branch = frees refl
turn Carrier = frees refl

tells_more : (h : Hart) (e : Event) → Fits h e → Tells h → Tells (record h { events = followed h e })
tells_more h e f t = go (turn e.op)
  where
    mine : (h.number == e.id.hart) ≡ true
    mine = eq-eqb h.number e.id.hart (sym f.hart)

    push : is_reserved (followed h e) h.number ≡ cond (is_exclusive e.op) (is_lr e.op) (is_reserved h.events h.number)
    push = grind (arith, common_steps)

    go : Turn e.op → Tells (record h { events = followed h e })
    go (frees free) = grind (arith, common_steps, reservation-kept)
    go (opens lr) = record {
      number = Some e.id.seq;
      is = reservation-new f lr;
      tells = sym (push ∙ ap (λ (op : Op). cond (is_exclusive op) (is_lr op) (is_reserved h.events h.number)) lr);
    }
    go (ends exclusive other none) = record {
      number = None;
      is = reservation-ended f exclusive other;
      tells = sym (push ∙ ap (λ (b : Bool). cond b (is_lr e.op) (is_reserved h.events h.number)) exclusive ∙ none);
    }

-- a list that is not empty has a last element
pub last_of : {X : Type 0} (x : X) (xs : List X) → (front : List X) × (y : X) × (x ∷ xs ≡ front ++ y ∷ [])
last_of {X} x [] = ([], x, refl)
last_of {X} x (z ∷ xs) = let r = last_of z xs in (x ∷ r.0, r.1, ap (λ (ys : List X). x ∷ ys) r.2)

parts : (xs : List Event) → (xs ≡ []) ⊎ ((front : List Event) × (y : Event) × (xs ≡ front ++ y ∷ []))
parts [] = inl refl
parts (x ∷ xs) = inr (last_of x xs)

none_told : (h : Hart) → h.events ≡ [] → Tells h
none_told h none = grind (arith, common_steps)

tells_up_to : (n : ℕ) (h : Hart) → length h.events ≤ n → IsHart h → Tells h
tells_up_to zero h short ok = grind (arith, common_steps)
tells_up_to (suc n) h short ok = go (parts h.events) (λ g. tells_up_to n g)
  where
    go : (h.events ≡ []) ⊎ ((front : List Event) × (y : Event) × (h.events ≡ front ++ y ∷ [])) →
        ((g : Hart) → length g.events ≤ n → IsHart g → Tells g) → Tells h
    go (inl none) again = none_told h none
    go (inr (front, y, is)) again =
        let before : Hart = record h { events = front } in
        let less : length front ≤ n = omega (arith, short, ap length is, length-append front (y ∷ [])) in
        let follows : Follows before y = hart-last h front y ok is in
        let ok' : IsHart before = hart-front h front y ok is in
        let more : Tells (record h { events = front ++ y ∷ [] }) = tells_more before y (fits_of before y ok' follows)
        (again before less ok') in
        subst (λ (es : List Event). Tells (record h { events = es })) (sym is) more

-- a reservation is there exactly where the last LR, SC or failed SC is an LR
pub reserved_is : (h : Hart) → IsHart h → (o : Option ℕ) → IsReservation h.events o →
    is_some o ≡ is_reserved h.events h.number
reserved_is h ok o is = same o is (tells_up_to (length h.events) h (omega arith) ok)
  where
    one : (o' p : Option ℕ) → IsReservation h.events o' → IsReservation h.events p → is_some o' ≡ is_some p
    one None None a b = refl
    one (Some s) (Some t) a b = refl
    one None (Some t) a b = absurd (a b.a b.of_list b.holds)
    one (Some s) None a b = absurd (b a.a a.of_list a.holds)

    same : (o' : Option ℕ) → IsReservation h.events o' → Tells h → is_some o' ≡ is_reserved h.events h.number
    same o' a t = one o' t.number a t.is ∙ t.tells

none_past : {X : Type 0} (xs : List X) (k : ℕ) → slice_get xs k ≡ None → length xs ≤ k
none_past [] k e = omega arith
none_past (x ∷ xs) zero e = absurd (none-some x (sym e))
none_past (x ∷ xs) (suc k) e = let low = none_past xs k e in omega (arith, low)

abbrev id_at : Hart → ℕ → Id
id_at h s = record { hart = h.number; seq = s }

-- a number names the event at its place
pub named-at : (h : Hart) → IsHart h → (s : ℕ) →
    named h.events (record { hart = h.number; seq = s }) ≡ slice_get h.events s
named-at h ok s = go (slice_get h.events s) refl (named h.events (id_at h s)) refl
  where
    known : Known h
    known = known_of h ok

    go :
        (o : Option Event) → slice_get h.events s ≡ o → (p : Option Event) → named h.events (id_at h s) ≡ p →
        named h.events (id_at h s) ≡ slice_get h.events s
    go (Some x) e p f =
        let low : s < length h.events = slice_get_within h.events s x e in
        let read : get_or h.events s x ≡ x = get_or_from_slice_get h.events s x x e in
        let c : Contains h.events x = (s, low, get_or_default h.events s _ x low ∙ read) in
        let seq : x.id.seq ≡ s = ap (λ (y : Event). y.id.seq) (sym read) ∙ known.at s x low in
        let hart : x.id.hart ≡ h.number = known.own x c in
        let same : x.id ≡ id_at h s = λ j. record { hart = hart j; seq = seq j } in
        ap (named h.events) (sym same) ∙ known.indexed.own x c ∙ sym e
    go None e None f = f ∙ sym e
    go None e (Some a) f =
        let is = named-is h.events (id_at h s) a f in
        let low : a.id.seq < length h.events = known.below a is.0 in
        let at : s ≡ a.id.seq = ap (λ (j : Id). j.seq) is.1 in
        let past : length h.events ≤ s = none_past h.events s e in
        absurd (omega (arith, low, at, past))
