-- A step by the one seat of a view.
use Rattle.rv_slots.proofs.Common.{seats_at_most, ◌≡◌, ◌≢◌, ℕ, zero, suc, ◌<◌, Bool, List, [], ◌∷◌, ◌++◌, length}
use Rattle.rv_slots.proofs.Common.{set, sym, refl, ap, ◌∙◌, subst, arith, ⊎_elim, common_steps, some}
use Rattle.rv_slots.proofs.Common.{some-injective, some-ne-none, get_elem?, State, stepped, keeps, at_set}
use Rattle.rv_slots.proofs.Common.{set_here, set_else, Core, Step, Slot, put_at, after, start, put_cases}
use Rattle.rv_slots.proofs.Common.{run-append, View, Mark, Record, SeatView, At, IsSeated, IsReached, IsTable}
use Rattle.rv_slots.proofs.Common.{IsMarked, Marked, AreWhole, Whole, Fits, Kept}

-- a view of one seat
abbrev pub one : SeatView → View
one p = record { seats = p ∷ [] }

-- what is there is below the length
pub there_below : {A : Type 0} (l : List A) (i : ℕ) (a : A) → get_elem? l i ≡ some a → i < length l
there_below [] i a e = absurd (some-ne-none a (sym e))
there_below (x ∷ xs) zero a e = omega arith
there_below (x ∷ xs) (suc i) a e = let r = there_below xs i a e in omega arith

-- one place has one seat
pub at_one : (views : List View) (k m : ℕ) (p q : SeatView) → At views k m p → At views k m q → p
    ≡ q
at_one views k m p q a b = let same : a.0 ≡ b.0 = some-injective a.0 b.0 (sym a.1 ∙ b.1) in
    some-injective p q (sym a.2 ∙ (ap (λ (v : View). get_elem? v.seats m) same ∙ b.2))

-- the only place of a view of one seat
pub only_first : (p q : SeatView) (m : ℕ) → get_elem? (p ∷ []) m ≡ some q → (m ≡ 0) × (p ≡ q)
only_first p q zero e = (refl, some-injective p q e)
only_first p q (suc m) e = absurd (some-ne-none q (sym e))

module _ (views : List View) (seat : ℕ → SeatView) (row column : ℕ → ℕ)
    (d : IsSeated views seat row column) (id : ℕ) (p : SeatView)
    (here : get_elem? views id ≡ some (one p)) where
  first_at : At views id 0 p
  first_at = (one p, here, refl)

  -- a view is the seat of its number
  pub seat_is : (p.number < seats_at_most) × (row p.number ≡ id) × (column p.number ≡ 0) ×
      (seat p.number ≡ p)
  seat_is = let o = d.only id 0 p first_at in (
    o.0,
    o.1,
    o.2,
    at_one views id 0 (seat p.number) p
        (subst (λ (z : ℕ × ℕ). At views z.0 z.1 (seat p.number)) (λ i. (o.1 i, o.2 i))
        (d.there p.number o.0)) first_at,
  )

  not_here : (t : ℕ) → t < seats_at_most → t ≢ p.number → row t ≢ id
  not_here t h n e = let a = subst (λ (z : ℕ). At views z (column t) (seat t)) e (d.there t h) in
      let same : a.0 ≡ one p = some-injective a.0 (one p) (sym a.1 ∙ here) in
      let f = only_first p (seat t) (column t) (ap (λ (v : View). get_elem? v.seats (column t))
      (sym same) ∙ a.2) in n (sym (d.named t h) ∙ sym (ap (λ (q : SeatView). q.number) f.1))

  -- a view that was changed is seated
  pub seated_after : (q : SeatView) → q.number ≡ p.number → IsSeated (set views id (one q))
      (put_at seat p.number q) row column
  seated_after q same = record {
    there = λ t h. put_cases (λ z. At (set views id (one q)) (row t) (column t) z) seat p.number t q
        (λ e. let is = seat_is in subst (λ (z : ℕ × ℕ). At (set views id (one q)) z.0 z.1 q)
        (λ i. (sym (ap row e ∙ is.1) i, sym (ap column e ∙ is.2) i))
        (one q, set_here views id (one q) (there_below views id (one p) here), refl))
        (λ ne. let a = d.there t h in (
          a.0,
          set_else views id (row t) (one q) (not_here t h ne)
              ∙ a.1,
          a.2,
        ));
    named = grind (arith, common_steps);
    only = λ k m r a. ⊎_elim (λ new. let is = seat_is in let f = only_first q r m
        (ap (λ (v : View). get_elem? v.seats m) new.1 ∙ a.2) in let name : p.number
        ≡ r.number = sym same ∙ ap (λ (z : SeatView). z.number) f.1 in (
          subst (λ (z : ℕ). z < seats_at_most) name is.0,
          ap row (sym name) ∙ (is.1 ∙ sym new.0),
          ap column (sym name) ∙ (is.2 ∙ sym f.0),
        ))
        (λ old. d.only k m r (a.0, old.1, a.2))
        (at_set views id k (one q) a.0 a.1);
  }

-- a step leads to a state that is reached
pub reached_next : (n : ℕ) (c d : Core) (e : Step) → IsReached n c → after c e ≡ d → IsReached n d
reached_next n c d e r is = (
  r.0 ++ e ∷ [],
  run-append r.0 (e ∷ []) (start n seats_at_most) ∙
      (ap (λ (z : Core). after z e) r.1 ∙ is),
)

-- what a step leaves of a field of the views
pub field_same : {B : Type 0} (F : SeatView → B) (seat : ℕ → SeatView) (s : ℕ) (q : SeatView)
    → F q ≡ F (seat s) → (t : ℕ) → F (put_at seat s q t) ≡ F (seat t)
field_same {B} F seat s q e t = put_cases (λ z. F z ≡ F (seat t)) seat s t q
    (λ d. e ∙ ap (λ (k : ℕ). F (seat k)) (sym d)) (λ _. refl)

-- a part of a slot that the write leaves
pub slot_same : {B : Type 0} (F : Slot → B) (slots : ℕ → Slot) (i : ℕ) (x : Slot) → F x ≡ F
    (slots i) → (k : ℕ) → F (put_at slots i x k) ≡ F (slots k)
slot_same {B} F slots i x e k = put_cases (λ z. F z ≡ F (slots k)) slots i k x
    (λ d. e ∙ ap (λ (u : ℕ). F (slots u)) (sym d)) (λ _. refl)

-- marks that the write leaves
pub marked_same : (slots xs : ℕ → Slot) (seat : ℕ → SeatView) (s : ℕ) (q : SeatView)
    → Marked slots seat → ((i : ℕ) → (xs i).done ≡ (slots i).done) →
    ((i : ℕ) → (xs i).generation ≡ (slots i).generation)
    → q.dones ≡ (seat s).dones → q.frees ≡ (seat s).frees → Marked xs (put_at seat s q)
marked_same slots xs seat s q m done generation dones frees =
    subst (λ (z : (ℕ → Bool) × (ℕ → ℕ) × (ℕ → List Mark) × (ℕ → List Mark)). IsMarked z.0 z.1 z.2
    z.3)
    (λ i. (
      λ k. sym (done k) i,
      λ k. sym (generation k) i,
      λ t. sym
          (field_same (λ z. z.dones) seat s q dones t) i,
      λ t. sym
          (field_same (λ z. z.frees) seat s q frees t) i,
    )) m

-- records that stay whole
pub whole_same : (seat : ℕ → SeatView) (s : ℕ) (q : SeatView) → Whole seat → q.records ≡
    (seat s).records → Whole (put_at seat s q)
whole_same seat s q m e = subst (λ (z : ℕ → List Record). AreWhole z)
    (λ i t. sym (field_same (λ z. z.records) seat s q e t) i) m

-- the rule holds afterwards, and the machine's state is the one after e
abbrev pub Goes : (n : ℕ) (s : State (Unit {0}) View) → Kept n s → Step → ℕ → ℕ → ℕ → List
    (ℕ × Unit {0}) → SeatView → Type 0
Goes n s k e i w id l q = (k' : Kept n (stepped s i w id l (one q) keeps)) ×
    (k'.core ≡ after k.core e)

-- a step of the machine that keeps the rule is allowed
pub allows_of : (n slots id i : ℕ) (me : Rattle.atomic_table.specs.Table.Me (Unit {0}) View)
    (f : ℕ → ℕ) (e : Step) (told : ℕ → Rattle.atomic_table.specs.Table.Me (Unit {0}) View → Type 0)
    → Rattle.rv_slots.specs.Steps.Refines n id me i f e told
    → Rattle.atomic_table.specs.Table.Allows (Kept n) slots id me i f told
allows_of n slots id i me f e told r s k homes at small = let o = r s k at small in
    (o.0, keeps, tt, o.1, o.3)

-- an exchange that is the step e of the machine
pub keeps_by : (n : ℕ) (s : State (Unit {0}) View) (id i w : ℕ) (p q : SeatView) (k : Kept n s)
    → get_elem? s.views id ≡ some (one p) → q.number ≡ p.number
    → (d : Core) (e : Step) → after k.core e ≡ d → (d.slot_count ≡ k.core.slot_count) ×
    (d.seat_count ≡ k.core.seat_count)
    → IsTable n (set s.words i w) d.slots → Fits q (d.seats p.number) →
    ((t : ℕ) → t ≢ p.number → d.seats t ≡ k.core.seats t)
    → Marked d.slots (put_at k.seat p.number q) → Whole (put_at k.seat p.number q)
    → Goes n s k e i w id [] q
keeps_by n s id i w p q k here same d e is counts table fits others marked whole = (
  record {
    core = d;
    reached = reached_next n k.core d e k.reached is;
    counts = (counts.0 ∙ k.counts.0, counts.1 ∙ k.counts.1);
    table = table;
    seat = put_at k.seat p.number q;
    row = k.row;
    column = k.column;
    seated = seated_after s.views k.seat k.row k.column k.seated id p here q same;
    fits = grind (arith, common_steps);
    marked = marked;
    whole = whole;
  },
  sym is,
)
