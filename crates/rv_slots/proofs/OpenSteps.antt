-- The loop of `new`.
use Rattle.rv_slots.proofs.Common.{last_seat, seats_at_most, ◌≡◌, ℕ, zero, suc, ◌+◌, ◌-◌, ◌<◌, ◌≤◌}
use Rattle.rv_slots.proofs.Common.{List, [], ◌∷◌, ◌++◌, length, refl, ap, ◌∙◌, arith, ⊎_elim}
use Rattle.rv_slots.proofs.Common.{length-append, common_steps, Me, Splits, TableId, View, fresh}
use Rattle.rv_slots.proofs.Common.{fresh_seats, cut_left, cut_right, only, IsIdle, AreSeats, Kept}
use Rattle.rv_slots.specs.declared.seats.Seat.{Seat}
use Rattle.rv_slots.proofs.Places.{cuts, in_longer}

-- what one thread knows: a view
abbrev pub Mine : Type 0
Mine = Me (Unit {0}) View

-- the seats that are left
pub rest_is : (k : ℕ) → k ≤ last_seat → fresh_seats (seats_at_most - k) ≡ fresh k ∷ fresh_seats
    (last_seat - k)
rest_is k h = grind (arith, common_steps)

-- one more is cut off
pub next_cuts : (n id k : ℕ) (m : Mine) → k ≤ last_seat → m ≡
    (record { seats = fresh_seats (seats_at_most - k) }, []) → Splits (Kept n) id m.0
    (cut_left m.0) (cut_right m.0)
next_cuts n id k m h e = cuts n id m.0 (fresh k) (fresh_seats (last_seat - k))
    (ap (λ (z : Mine). z.0) e ∙ (λ j. record { seats = rest_is k h j }))

-- the seat that was cut off
pub left_is : (k : ℕ) (m w : Mine) → k ≤ last_seat → m ≡
    (record { seats = fresh_seats (seats_at_most - k) }, []) → w ≡ (cut_left m.0, m.1) → w ≡ only
    (fresh k)
left_is k m w h e f = grind (arith, common_steps)

-- and the others
pub right_is : (k : ℕ) (m w : Mine) → k ≤ last_seat → m ≡
    (record { seats = fresh_seats (seats_at_most - k) }, []) → w ≡ (cut_right m.0, []) → w ≡
    (record { seats = fresh_seats (last_seat - k) }, [])
right_is k m w h e f = f ∙
    ((λ j. (cut_right (e j).0, [])) ∙ (λ j. (cut_right (record { seats = rest_is k h j }), [])))

-- a fresh seat is idle
pub idle_fresh : (k : ℕ) (w : Mine) → k ≤ last_seat → w ≡ only (fresh k) → IsIdle k w
idle_fresh k w h e = grind (arith, common_steps)

-- at the end of the list
pub seats_pushed : (t : TableId) (l m : List Seat) (k : ℕ) (s : Seat) → m ≡ l ++ s ∷ []
    → AreSeats t l k → s.place.table_id ≡ t → s.number ≡ k → s.place.me ≡ only (fresh k)
    → AreSeats t m (k + 1)
seats_pushed t l m k s is a same named e =
    grind (arith, common_steps, length-append, ⊎_elim, in_longer)

-- within the list the default doesn't matter
at_default : (l : List Seat) (j : ℕ) (d : Seat) → j < length l
    → Rattle.std.proofs.Common.get_or l j d ≡ Rattle.std.proofs.Common.get_or l j
    (Rattle.std.proofs.Common.get_or l j d)
at_default [] j d h = absurd (omega arith)
at_default (x ∷ l) zero d h = refl
at_default (x ∷ l) (suc j) d h = at_default l j d (omega arith)

-- all seats are of the table
pub all_ours : (t : TableId) (l : List Seat) (k : ℕ) → AreSeats t l k
    → Rattle.std.proofs.Common.All (λ (s : Seat). s.place.table_id ≡ t) l
all_ours t l k a j d h = (a.1 j (Rattle.std.proofs.Common.get_or l j d)
    (Rattle.atomic_table.proofs.Lists.at_index l j (Rattle.std.proofs.Common.get_or l j d) h
    (at_default l j d h))).0
