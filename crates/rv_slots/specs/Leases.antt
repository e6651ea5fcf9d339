-- Seats and leases of slots under a lock.
use Rattle.std.specs.Prelude.{ℕ, ◌≡◌}
use Rattle.rv_slots.specs.declared.carrier.Looked.{Looked}
use Rattle.rv_slots.specs.declared.carrier.Looked.TheVariants.{Found, Nothing}

-- a seat's number, and the index of the slot that it reads
pub record Leased : Type 0 where
  pub seat : ℕ
  pub index : ℕ

-- the lease is of this seat and slot, or the seat comes back
abbrev pub IsLookOf : ℕ → ℕ → Looked ℕ Leased → Type 0
IsLookOf seat index (Found chunk lease) = (lease.seat ≡ seat) × (lease.index ≡ index)
IsLookOf seat index (Nothing back) = back ≡ seat
