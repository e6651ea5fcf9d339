-- What a worker makes of the answer to a chunk.
use Rattle.std.specs.Prelude.{◌≡◌, ◌⊎◌, Bool, true, false, IsSome}
use Rattle.rv_chunk.specs.Packing.{Content}
use Rattle.rv_book.specs.declared.book.ChunkOffer.{ChunkOffer}
use Rattle.rv_book.specs.declared.book.ChunkOffer.TheVariants as offer
use Rattle.rv_slots.specs.declared.carrier.Looked.{Looked}
use Rattle.rv_slots.specs.declared.carrier.Looked.TheVariants as looked
use Rattle.rv_verdict.specs.Known.{Known}
use Rattle.rv_run.specs.declared.serving.Turn.{Turn}
use Rattle.rv_run.specs.declared.serving.Turn.TheVariants as turn

-- a chunk counts as applied where all of it is in the book, and for no other answer; a verdict is in
-- the cell afterwards, and known to the note, unless memory ran out
abbrev pub IsTurnOf : ChunkOffer → Known → Turn → Type 0
IsTurnOf (offer.Applied n) note t = t ≡ turn.Applied
IsTurnOf offer.Already note t = t ≡ turn.Applied
IsTurnOf (offer.NotYet n) note t = t ≡ turn.Idle
IsTurnOf offer.Stopped note t = t ≡ turn.Idle
IsTurnOf offer.NoMemory note t = t ≡ turn.NoMemory
IsTurnOf (offer.Halted v) note t = (t ≡ turn.NoMemory) ⊎ ((t ≡ turn.Idle) × IsSome note.verdict)

abbrev pub is_applied : Turn → Bool
is_applied turn.Idle = false
is_applied turn.Applied = true
is_applied turn.NoMemory = false

-- What became of a slot, by what a look found: nothing, and the seat came back; or a chunk, which the
-- gate answered, and whose lease was given up as done with just where all of it is in the book.
abbrev pub IsServed : {S L : Type 0} → (Content → ChunkOffer → Type 0) → (L → Bool → S → Type 0) → Known →
    Looked S L → S → Turn → Type 0
IsServed answers finishes note (looked.Nothing seat) back t = (back ≡ seat) × (t ≡ turn.Idle)
IsServed answers finishes note (looked.Found chunk lease) back t =
    (offer : ChunkOffer) × answers chunk offer × IsTurnOf offer note t × finishes lease (is_applied t) back
