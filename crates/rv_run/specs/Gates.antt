-- What the answer to an offered chunk says of the chunk alone.
use Rattle.std.specs.Prelude.{◌≤◌, ◌<◌, ◌*◌, length, ⊤}
use Rattle.rv_chunk.specs.Packing.{Content}
use Rattle.rv_book.specs.declared.book.ChunkOffer.{ChunkOffer}
use Rattle.rv_book.specs.declared.book.ChunkOffer.TheVariants.{Applied, NotYet, Already, Halted, Stopped, NoMemory}

-- some of its events were accepted, or its source has fewer events than stand before the chunk
abbrev pub IsAnswerFor : Content → ChunkOffer → Type 0
IsAnswerFor chunk (Applied n) = (0 < n) × (n ≤ length chunk.events)
IsAnswerFor chunk (NotYet count) = count < 8 * chunk.number
IsAnswerFor chunk Already = ⊤
IsAnswerFor chunk (Halted v) = ⊤
IsAnswerFor chunk Stopped = ⊤
IsAnswerFor chunk NoMemory = ⊤
