-- What the calls of a carrier over the table do, in the words of the table's own calls.
use Rattle.std.specs.Prelude.{◌≡◌, ◌<◌, ◌≤◌, ◌⊎◌, ℕ, zero, suc, Bool, true, false, List, drop}
use Rattle.rv_chunk.specs.Chunks.{chunk_text}
use Rattle.rv_chunk.specs.Packing.{Content}
use Rattle.rv_slotcore.specs.Machine.{all_put, put_words}
use Rattle.rv_slots.specs.declared.views.SeatView.{SeatView}
use Rattle.rv_slots.specs.declared.seats.Seat.{Seat}
use Rattle.rv_slots.specs.declared.seats.Filling.{Filling}
use Rattle.rv_slots.specs.declared.seats.Pinned.{Pinned}
use Rattle.rv_slots.specs.declared.seats.Stray.{Stray}
use Rattle.rv_slots.specs.declared.seats.Free.{Free}
use Rattle.rv_slots.specs.declared.seats.Claim.TheVariants as claim
use Rattle.rv_slots.specs.declared.seats.Pin.TheVariants as pin
use Rattle.rv_slots.specs.declared.carrier.Put.{Put}
use Rattle.rv_slots.specs.declared.carrier.Put.TheVariants.{Placed, Busy}
use Rattle.rv_slots.specs.declared.carrier.Looked.{Looked}
use Rattle.rv_slots.specs.declared.carrier.Looked.TheVariants.{Found, Nothing}
use Rattle.rv_slots.specs.Lines.{put_in, pin_words, published, finished}
use Rattle.rv_slots.specs.Calls.{view_of, filling_view, pinned_view, stray_view}
use Rattle.rv_slots.specs.Calls.{IsClaim, IsPin, IsUnpin, IsFree}

-- the 58 words of a chunk
abbrev pub text_of : Content → List ℕ
text_of c = chunk_text c.source c.number c.events

-- records and marks are the same
abbrev pub IsSameBook : SeatView → SeatView → Type 0
IsSameBook p q = (q.records ≡ p.records) × (q.dones ≡ p.dones) × (q.frees ≡ p.frees)

-- all words were put, and then published
abbrev pub IsFilled : Filling → List ℕ → Seat → Type 0
IsFilled f words r = (p : SeatView) × IsSameBook (filling_view f) p
    × (all_put (put_in p.state) ≡ true) × (put_words (put_in p.state) ≡ words)
    × (found : ℕ) × (view_of r ≡ published p f.slot found)

-- the slots before i were claimed one after another, and each was found claimed
abbrev pub AreBusy : ℕ → Seat → Seat → Type 0
AreBusy zero q r = r ≡ q
AreBusy (suc i) q r = (s : Seat) × AreBusy i q s × IsClaim s i (claim.Busy r)

-- the first slot that was not found claimed was filled with the chunk's words; or each was found
-- claimed
abbrev pub IsPutOf : ℕ → Seat → List ℕ → Seat → Put → Type 0
IsPutOf count q words r Placed = (i : ℕ) × (i < count) × (s : Seat) × AreBusy i q s
    × (f : Filling) × IsClaim s i (claim.Filling f) × IsFilled f words r
IsPutOf count q words r Busy = AreBusy count q r

-- the pin's record is whole, and its words are these
abbrev pub IsRead : Pinned → List ℕ → Pinned → Type 0
IsRead p words l = (all_put (pin_words (pinned_view l).records) ≡ true)
    × (put_words (pin_words (pinned_view l).records) ≡ words)
    × (drop 1 (pinned_view l).records ≡ drop 1 (pinned_view p).records)
    × ((pinned_view l).dones ≡ (pinned_view p).dones)
    × ((pinned_view l).frees ≡ (pinned_view p).frees)

-- a pin was taken off, and one free was tried with the word seen
abbrev pub IsLetGo : SeatView → ℕ → ℕ → Seat → Type 0
IsLetGo p i number r = (u : Seat) × (seen : ℕ) × IsUnpin p i number u seen
    × (answer : Free) × IsFree u i seen answer r

-- the slot was pinned and read; or its pin was stray and taken off; or there is no such slot
abbrev pub IsLook : ℕ → Seat → ℕ → Looked Seat Pinned → Type 0
IsLook count q i (Found chunk l) = (i < count) × (p : Pinned) × IsPin q i (pin.Pinned p)
    × IsRead p (text_of chunk) l × (l.slot ≡ i) × (l.number ≡ q.number)
IsLook count q i (Nothing r) = ((count ≤ i) × (r ≡ q))
    ⊎ ((i < count) × (s : Stray) × IsPin q i (pin.Stray s) × IsLetGo (stray_view s) i q.number r)

-- the view after a done, where it was asked for
abbrev pub IsDone : Pinned → Bool → SeatView → Type 0
IsDone l true p = (found : ℕ) × (p ≡ finished (pinned_view l) l.slot found)
IsDone l false p = p ≡ pinned_view l

-- a done where it was asked for, and then the pin was taken off
abbrev pub IsFinish : Pinned → Bool → Seat → Type 0
IsFinish l applied r = (p : SeatView) × IsDone l applied p × IsLetGo p l.slot l.number r
