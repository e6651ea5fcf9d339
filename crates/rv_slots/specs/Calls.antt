-- What the calls promise.
use Rattle.rv_slotcore.specs.Places.{claimed_bit, done_bit, full_bit, generation_bit}
use Rattle.rv_slotcore.specs.Places.{last_generation}
use Rattle.std.specs.Prelude.{◌≡◌, ◌≢◌, ◌≤◌, ◌/◌, ◌^◌, ℕ, Bool, true}
use Rattle.std.specs.Prelude.{false, bit_and, Contains}
use Rattle.std.specs.Int.{bit_at, bit_not, w64}
use Rattle.rv_slotcore.specs.Machine.{is_free_word}
use Rattle.rv_slots.specs.declared.views.SeatView.{SeatView}
use Rattle.rv_slots.specs.declared.views.Record.{Record}
use Rattle.rv_slots.specs.declared.seats.Seat as idle
use Rattle.rv_slots.specs.declared.seats.Filling as filling
use Rattle.rv_slots.specs.declared.seats.Pinned as pinning
use Rattle.rv_slots.specs.declared.seats.Stray as straying
use Rattle.rv_slots.specs.declared.seats.Claim as claim
use Rattle.rv_slots.specs.declared.seats.Pin as pin
use Rattle.rv_slots.specs.declared.seats.Free as free
use Rattle.rv_slots.specs.Lines.{the_view, claimed, published, pinned}
use Rattle.rv_slots.specs.Lines.{unpinned, freed}

abbrev pub view_of : idle.Seat → SeatView
view_of q = the_view q.place.me.0

abbrev pub filling_view : filling.Filling → SeatView
filling_view q = the_view q.place.me.0

abbrev pub pinned_view : pinning.Pinned → SeatView
pinned_view q = the_view q.place.me.0

abbrev pub stray_view : straying.Stray → SeatView
stray_view q = the_view q.place.me.0

-- the answer goes by whether the word found was claimed, and the view changes by the line of a
-- claim
abbrev pub IsClaim : idle.Seat → ℕ → claim.Claim → Type 0
IsClaim q i (claim.TheVariants.Filling f) = (found : ℕ) × (bit_at found claimed_bit ≡ 0)
    × (filling_view f ≡ claimed (view_of q) i found)
    × (f.place.table_id ≡ q.place.table_id) × (f.number ≡ q.number) × (f.slot ≡ i)
IsClaim q i (claim.TheVariants.Busy r) = (found : ℕ) × (bit_at found claimed_bit ≡ 1)
    × (view_of r ≡ claimed (view_of q) i found)
    × (r.place.table_id ≡ q.place.table_id) × (r.number ≡ q.number)

abbrev pub IsSameFilling : filling.Filling → filling.Filling → Type 0
IsSameFilling q r = (r.place.table_id ≡ q.place.table_id) × (r.number ≡ q.number)
    × (r.slot ≡ q.slot)

-- the view changes by the line of a publish
abbrev pub IsPublish : filling.Filling → idle.Seat → Type 0
IsPublish q r = (found : ℕ) × (view_of r ≡ published (filling_view q) q.slot found)
    × (r.place.table_id ≡ q.place.table_id) × (r.number ≡ q.number)

-- no record of the slot that the seat had is of a later generation
abbrev pub IsLatest : SeatView → ℕ → ℕ → Type 0
IsLatest p i g = (r : Record) → Contains p.records r → r.slot ≡ i → r.generation ≤ g

-- the answer goes by whether the word found was full and not done, and the view changes by the line
-- of a pin
abbrev pub IsPin : idle.Seat → ℕ → pin.Pin → Type 0
IsPin q i (pin.TheVariants.Pinned f) = (found : ℕ)
    × (bit_at found full_bit ≡ 1) × (bit_at found done_bit ≡ 0)
    × (pinned_view f ≡ pinned (view_of q) i found)
    × IsLatest (view_of q) i (found / 2 ^ generation_bit)
    × (f.place.table_id ≡ q.place.table_id) × (f.number ≡ q.number) × (f.slot ≡ i)
IsPin q i (pin.TheVariants.Stray f) = (found : ℕ)
    × (bit_at found full_bit ≡ 1 → bit_at found done_bit ≡ 1)
    × (stray_view f ≡ pinned (view_of q) i found)
    × (f.place.table_id ≡ q.place.table_id) × (f.number ≡ q.number) × (f.slot ≡ i)

abbrev pub IsSamePinned : pinning.Pinned → pinning.Pinned → Type 0
IsSamePinned q r = (r.place.table_id ≡ q.place.table_id) × (r.number ≡ q.number)
    × (r.slot ≡ q.slot)

-- a state word without the pin of seat s
abbrev pub without : ℕ → ℕ → ℕ
without w s = bit_and w (bit_not w64 (2 ^ s))

-- the word given is the one found without the own pin, and the view changes by the line of an unpin
abbrev pub IsUnpin : SeatView → ℕ → ℕ → idle.Seat → ℕ → Type 0
IsUnpin p i s r word = (found : ℕ) × (word ≡ without found s)
    × (view_of r ≡ unpinned p i found) × (r.number ≡ s)

-- no exchange where the word seen may not be freed; else one that found another word
abbrev pub IsHeld : idle.Seat → ℕ → ℕ → idle.Seat → Bool → Type 0
IsHeld q i seen r false = r ≡ q
IsHeld q i seen r true = (seen / 2 ^ generation_bit ≢ last_generation)
    × (found : ℕ) × (found ≢ seen) × (view_of r ≡ freed (view_of q) i seen found)

-- freed exactly where there was an exchange that found the word seen
abbrev pub IsFree : idle.Seat → ℕ → ℕ → free.Free → idle.Seat → Type 0
IsFree q i seen free.TheVariants.Freed r = (is_free_word seen ≡ true)
    × (seen / 2 ^ generation_bit ≢ last_generation) × (view_of r ≡ freed (view_of q) i seen seen)
IsFree q i seen free.TheVariants.Worn r = (is_free_word seen ≡ true)
    × (seen / 2 ^ generation_bit ≡ last_generation) × (r ≡ q)
IsFree q i seen free.TheVariants.Held r = IsHeld q i seen r (is_free_word seen)
