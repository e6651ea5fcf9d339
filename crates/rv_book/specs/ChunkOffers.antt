-- Facts for single answers of an offered chunk.
use Rattle.std.specs.Prelude.{⊤, ℕ}
use Rattle.rv_cert.specs.declared.verdict.Verdict.{Verdict}
use Rattle.rv_book.specs.declared.book.ChunkOffer.{ChunkOffer}
use Rattle.rv_book.specs.declared.book.ChunkOffer.TheVariants.{Applied, NotYet, Already, Halted, Stopped, NoMemory}

-- where the rest of the chunk was applied
abbrev pub IfApplied : ChunkOffer → (ℕ → Type 0) → Type 0
IfApplied (Applied count) P = P count
IfApplied _ P = ⊤

-- where one of its events was refused
abbrev pub IfHalted : ChunkOffer → (Verdict → Type 0) → Type 0
IfHalted (Halted verdict) P = P verdict
IfHalted _ P = ⊤

-- where memory ran out
abbrev pub OnNoMemory : ChunkOffer → Type 0 → Type 0
OnNoMemory NoMemory P = P
OnNoMemory _ P = ⊤

-- where it comes too early
abbrev pub IfNotYet : ChunkOffer → (ℕ → Type 0) → Type 0
IfNotYet (NotYet count) P = P count
IfNotYet _ P = ⊤

-- where its source has given all of it
abbrev pub OnAlready : ChunkOffer → Type 0 → Type 0
OnAlready Already P = P
OnAlready _ P = ⊤

-- where events of it were offered
abbrev pub OnOffered : ChunkOffer → Type 0 → Type 0
OnOffered (Applied count) P = P
OnOffered (Halted verdict) P = P
OnOffered NoMemory P = P
OnOffered _ P = ⊤

-- where none was
abbrev pub OnPassed : ChunkOffer → Type 0 → Type 0
OnPassed (NotYet count) P = P
OnPassed Already P = P
OnPassed Stopped P = P
OnPassed _ P = ⊤
