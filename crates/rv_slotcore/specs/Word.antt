-- The state word of a slot, read by its bits.
use Rattle.std.specs.Prelude.{◌≡◌, ◌<◌, ◌/◌, ◌^◌, ℕ}
use Rattle.std.specs.Int.{bit_at}
use Rattle.rv_slotcore.specs.Machine.{Slot, flag}
use Rattle.rv_slotcore.specs.Places.{seats_at_most, claimed_bit, full_bit, done_bit, generation_bit}

-- a state word read by its bits is the slot
pub record Reads (w : ℕ) (x : Slot) : Type 0 where
  pub generation : w / 2 ^ generation_bit ≡ x.generation
  pub claimed : bit_at w claimed_bit ≡ flag x.claimed
  pub full : bit_at w full_bit ≡ flag x.full
  pub done : bit_at w done_bit ≡ flag x.done
  pub pins : (s : ℕ) → s < seats_at_most → bit_at w s ≡ flag (x.pins s)
