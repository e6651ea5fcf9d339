-- A table of empty slots and idle seats is the machine's first state.
use Rattle.rv_slotcore.proofs.Common.{true, false, ◌==◌, ◌&&◌, ◌≡◌, ℕ, zero, suc, Bool, List, map, replicate, []}
use Rattle.rv_slotcore.proofs.Common.{◌++◌, ◌-◌, take, get_or, refl, ap, arith, length-map, length-replicate}
use Rattle.rv_slotcore.proofs.Common.{common_steps, blank_slot, start, core_of, slot_of, seat_of, idle_seat}
use Rattle.rv_slotcore.proofs.Common.{Parts, SlotState}

-- a slot's state and words at the start
abbrev pub empty_slot : SlotState
empty_slot = record { word = 0; content = replicate 58 0 }

never : (b : Bool) (n : ℕ) → n ≡ 0 → (b && (n == 1)) ≡ false
never true n e = ap (λ (k : ℕ). k == 1) e
never false n e = refl

empty_is : slot_of empty_slot ≡ blank_slot
empty_is = grind (arith, common_steps)

blank_at : (n i : ℕ) → get_or (map slot_of (replicate n empty_slot)) i blank_slot ≡ blank_slot
blank_at zero i = refl
blank_at (suc n) zero = empty_is
blank_at (suc n) (suc i) = blank_at n i

-- a new program is the machine's start
pub starts : (h : Parts) (n m : ℕ) → h.slots.items ≡ replicate n empty_slot
    → map seat_of h.seats.items ≡ replicate m idle_seat → core_of h ≡ start n m
starts h n m slots idle = grind (arith, common_steps, length-replicate, length-map, blank_at)

-- what is filled up from nothing
pub filled : (xs ys : List SlotState) (n k : ℕ) → xs ≡ take n ys ++ replicate (n - k) empty_slot
    → ys ≡ [] → k ≡ 0 → xs ≡ replicate n empty_slot
filled xs ys n k is none zero_is = grind (arith, common_steps)
