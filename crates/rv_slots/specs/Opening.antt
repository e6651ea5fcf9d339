-- What `new` and `meet` promise.
use Rattle.rv_slotcore.specs.Places.{slots_at_least, slots_at_most}
use Rattle.std.specs.Prelude.{◌≡◌, ◌<◌, ◌≤◌, ◌⊎◌, ℕ, List, length}
use mathlib.Core.Option.{some}
use lib.ListN.{get_elem?}
use Rattle.atomic_table.specs.Seated.{TableId}
use Rattle.rv_slots.specs.declared.seats.Seat.{Seat}
use Rattle.rv_slots.specs.declared.fault.SlotsFault.{SlotsFault}
use Rattle.rv_slots.specs.declared.fault.SlotsFault.TheVariants.{Count, NoMemory}
use Rattle.rv_slots.specs.Lines.{fresh, Meet}
use Rattle.rv_slots.specs.Calls.{view_of}

-- seats 0 to k - 1 of the table, in order, before their first step
abbrev pub AreSeats : TableId → List Seat → ℕ → Type 0
AreSeats t seats k = (length seats ≡ k) × ((j : ℕ) (s : Seat) → get_elem? seats j ≡ some s
    → (s.place.table_id ≡ t) × (s.number ≡ j) × (view_of s ≡ fresh j))

-- both come back as they were, and their records agree
abbrev pub IsMeet : Seat → Seat → Seat → Seat → Type 0
IsMeet a b c d = (c.place.table_id ≡ a.place.table_id) × (c.number ≡ a.number)
    × (view_of c ≡ view_of a)
    × (d.place.table_id ≡ b.place.table_id) × (d.number ≡ b.number) × (view_of d ≡ view_of b)
    × Meet (view_of a).records (view_of b).records

-- the number of slots is out of range exactly where the fault says so
abbrev pub IsFault : ℕ → SlotsFault → Type 0
IsFault n Count = (n < slots_at_least) ⊎ (slots_at_most < n)
IsFault n NoMemory = (slots_at_least ≤ n) × (n ≤ slots_at_most)
