-- What the code reads and writes of a core, as the machine sees it.
use Rattle.rv_slotcore.proofs.Common.{◌≡◌, ℕ, zero, suc, ◌<◌, List, [], ◌∷◌, length, get_or, set, map, sym, refl}
use Rattle.rv_slotcore.proofs.Common.{ap, ◌∙◌, get_or-map, get_or-set_same, get_or-set_other, length-map}
use Rattle.rv_slotcore.proofs.Common.{with_item, arith, common_steps, put_at, Slot, Seat, blank_slot, with_slot}
use Rattle.rv_slotcore.proofs.Common.{with_seat, core_of, slot_of, seat_of, idle_seat, SlotState, SeatEntry}
use Rattle.rv_slotcore.proofs.Common.{Parts}
use Rattle.rv_slotcore.proofs.Updates.{put_cases}
use Rattle.rv_slotcore.specs.Machine as machine

module _ {A B : Type 0} (f : A → B) (d : B) where
  -- what f reads of the item at a place
  abbrev pub seen_at : List A → ℕ → B
  seen_at xs i = get_or (map f xs) i d

  -- what is read at a place
  pub read_at : (xs : List A) (i : ℕ) (x : A) → i < length xs → x ≡ get_or xs i x → seen_at xs i
      ≡ f x
  read_at xs i x h is = get_or-map f xs i x d h ∙ ap f (sym is)

  map_set : (xs : List A) (i : ℕ) (y : A) → map f (set xs i y) ≡ set (map f xs) i (f y)
  map_set [] i y = refl
  map_set (x ∷ xs) zero y = refl
  map_set (x ∷ xs) (suc i) y = ap (λ (ys : List B). f x ∷ ys) (map_set xs i y)

  -- what is read after a write
  pub written_at : (xs : List A) (i : ℕ) (y : A) → i < length xs → seen_at (set xs i y) ≡ put_at
      (seen_at xs) i (f y)
  written_at xs i y h =
      grind (arith, common_steps, put_cases, map_set, get_or-set_same, length-map, get_or-set_other)

-- a write of a slot
pub slots_written : (h : Parts) (i : ℕ) (x y : SlotState) (z : Slot → Slot)
    → i < length h.slots.items → x ≡ get_or h.slots.items i x → slot_of y ≡ z (slot_of x) →
    core_of (record { slots = with_item h.slots i y; seats = h.seats }) ≡ with_slot (core_of h) i
    (z ((core_of h).slots i))
slots_written h i x y z within is e =
    let r = read_at slot_of blank_slot h.slots.items i x within is in
    let w = written_at slot_of blank_slot h.slots.items i y within ∙ ap
    (λ (v : Slot). put_at (core_of h).slots i v) (e ∙ ap z (sym r)) in
    λ k. record {
      slot_count = (core_of h).slot_count;
      seat_count = (core_of h).seat_count;
      slots = w k;
      seats = (core_of h).seats;
    }

-- a write of a seat
pub seats_written : (h : Parts) (s : ℕ) (q p : SeatEntry) (z : Seat → Seat)
    → s < length h.seats.items → q ≡ get_or h.seats.items s q → seat_of p ≡ z (seat_of q) →
    core_of (record { slots = h.slots; seats = with_item h.seats s p }) ≡ with_seat (core_of h) s
    (z ((core_of h).seats s))
seats_written h s q p z within is e =
    let r = read_at seat_of idle_seat h.seats.items s q within is in
    let w = written_at seat_of idle_seat h.seats.items s p within ∙ ap
    (λ (v : Seat). put_at (core_of h).seats s v) (e ∙ ap z (sym r)) in
    λ k. record {
      slot_count = (core_of h).slot_count;
      seat_count = (core_of h).seat_count;
      slots = (core_of h).slots;
      seats = w k;
    }

-- a seat written as it is
pub same_seat : (c : machine.Core) (s : ℕ) → with_seat c s (c.seats s) ≡ c
same_seat c s = grind (arith, common_steps)
