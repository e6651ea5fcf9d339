-- The slot that a seat's state names is one of the table, after every step.
use Rattle.rv_slotcore.proofs.Common.{◌≡◌, ℕ, ◌<◌, Bool, true, false, ◌&&◌, refl, List, true≢false, Option}
use Rattle.rv_slotcore.proofs.Common.{nat_lt, ltb-true, arith, common_steps, Core, Seat, SeatState, Idle, Filling}
use Rattle.rv_slotcore.proofs.Common.{Pinned, Stray, put_at, claims, puts, publishes, publishes_if, pins_on}
use Rattle.rv_slotcore.proofs.Common.{pins_as, gets, finishes, unpins, frees, frees_if, moves, names_slot_below}
use Rattle.rv_slotcore.specs.Machine.{Act}
use Rattle.rv_slotcore.proofs.Updates.{put_cases}

-- each seat's state names a slot that is there
abbrev pub AllNamed : Core → Type 0
AllNamed c = (t : ℕ) → names_slot_below c.slot_count (c.seats t).state

module _ (c : Core) (s : ℕ) (h : AllNamed c) where
  put_keeps : (q : Seat) → names_slot_below c.slot_count q.state → (t : ℕ)
      → names_slot_below c.slot_count (put_at c.seats s q t).state
  put_keeps q p t = put_cases (λ z. names_slot_below c.slot_count z.state) c.seats s t q (λ _. p)
      (λ _. h t)

  claims_keep : (i : ℕ) (st : SeatState) (b : Bool) → i < c.slot_count → AllNamed
      (claims c s i st b).0
  claims_keep i st b l = grind (arith, common_steps)

  puts_keep : (j w : ℕ) (st : SeatState) → names_slot_below c.slot_count st → AllNamed
      (puts c s j w st).0
  puts_keep j w st l = grind (arith, common_steps)

  publish_if : (i : ℕ) (p : List (Option ℕ)) (b : Bool) → AllNamed (publishes_if c s i p b).0
  publish_if i p true = put_keeps _ tt
  publish_if i p false = h

  publishes_keep : (st : SeatState) → AllNamed (publishes c s st).0
  publishes_keep st = grind (arith, common_steps, publish_if)

  pin_as : (i : ℕ) (b : Bool) → i < c.slot_count → AllNamed (pins_as c s i b).0
  pin_as i true l = put_keeps _ l
  pin_as i false l = put_keeps _ l

  pins_keep : (i : ℕ) (st : SeatState) → i < c.slot_count → AllNamed (pins_on c s i st).0
  pins_keep i st l = grind (arith, common_steps)

  gets_keep : (j : ℕ) (st : SeatState) → AllNamed (gets c s j st).0
  gets_keep j st = grind (arith, common_steps)

  finishes_keep : (st : SeatState) → AllNamed (finishes c s st).0
  finishes_keep st = grind (arith, common_steps)

  unpins_keep : (st : SeatState) → AllNamed (unpins c s st).0
  unpins_keep Idle = h
  unpins_keep (Filling k p) = h
  unpins_keep (Pinned k g w) = put_keeps _ tt
  unpins_keep (Stray k) = put_keeps _ tt

  free_if : (i : ℕ) (a b d : Bool) → AllNamed (frees_if c s i a b d).0
  free_if i a b d = grind (arith, common_steps)

  frees_keep : (i seen : ℕ) (st : SeatState) → AllNamed (frees c s i seen st).0
  frees_keep i seen st = grind (arith, common_steps, free_if)

  low : (a : Bool) (i : ℕ) → a && nat_lt i c.slot_count ≡ true → i < c.slot_count
  low a i e = grind (arith, common_steps, ltb-true, true≢false)

  -- each act keeps the names of slots and seats
  pub moves_keep_named : (a : Act) → AllNamed (moves c s a).0
  moves_keep_named a =
      grind (
        arith,
        common_steps,
        claims_keep,
        puts_keep,
        publishes_keep,
        pins_keep,
        gets_keep,
        finishes_keep,
        unpins_keep,
        frees_keep,
      )

-- the number of seats stays
module _ (c : Core) (s : ℕ) where
  claims_keep_count : (i : ℕ) (st : SeatState) (b : Bool) → (claims c s i st b).0.seat_count
      ≡ c.seat_count
  claims_keep_count i st b = grind (arith, common_steps)

  puts_keep_count : (j w : ℕ) (st : SeatState) → (puts c s j w st).0.seat_count ≡ c.seat_count
  puts_keep_count j w st = grind (arith, common_steps)

  publish_if_count : (i : ℕ) (p : List (Option ℕ)) (b : Bool) →
      (publishes_if c s i p b).0.seat_count ≡ c.seat_count
  publish_if_count i p true = refl
  publish_if_count i p false = refl

  publishes_keep_count : (st : SeatState) → (publishes c s st).0.seat_count ≡ c.seat_count
  publishes_keep_count st = grind (arith, common_steps)

  pin_as_count : (i : ℕ) (b : Bool) → (pins_as c s i b).0.seat_count ≡ c.seat_count
  pin_as_count i true = refl
  pin_as_count i false = refl

  pins_keep_count : (i : ℕ) (st : SeatState) → (pins_on c s i st).0.seat_count ≡ c.seat_count
  pins_keep_count i st = grind (arith, common_steps)

  gets_keep_count : (j : ℕ) (st : SeatState) → (gets c s j st).0.seat_count ≡ c.seat_count
  gets_keep_count j st = grind (arith, common_steps)

  finishes_keep_count : (st : SeatState) → (finishes c s st).0.seat_count ≡ c.seat_count
  finishes_keep_count st = grind (arith, common_steps)

  unpins_keep_count_count : (st : SeatState) → (unpins c s st).0.seat_count ≡ c.seat_count
  unpins_keep_count_count st = grind (arith, common_steps)

  free_if_count : (i : ℕ) (a b d : Bool) → (frees_if c s i a b d).0.seat_count ≡ c.seat_count
  free_if_count i a b d = grind (arith, common_steps)

  frees_keep_count : (i seen : ℕ) (st : SeatState) → (frees c s i seen st).0.seat_count
      ≡ c.seat_count
  frees_keep_count i seen st = grind (arith, common_steps, free_if_count)

  -- and the number of seats
  pub moves_keep_count : (a : Act) → (moves c s a).0.seat_count ≡ c.seat_count
  moves_keep_count a =
      grind (
        arith,
        common_steps,
        claims_keep_count,
        puts_keep_count,
        publishes_keep_count,
        pins_keep_count,
        gets_keep_count,
        finishes_keep_count,
        unpins_keep_count_count,
        frees_keep_count,
      )
