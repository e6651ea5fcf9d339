-- What each answer to a verdict that was raised says.
use Rattle.std.specs.Prelude.{◌≡◌, Some, None}
use Rattle.std.specs.declared.option.Option.{Option}
use Rattle.once_cell.specs.Once.{Agrees}
use Rattle.rv_cert.specs.declared.verdict.Verdict.{Verdict}
use Rattle.rv_verdict.specs.declared.cell.Raise.{Raise}
use Rattle.rv_verdict.specs.declared.cell.Raise.TheVariants.{Raised, Kept, NoMemory}

-- Raised: a note that knew nothing knows the verdict passed Kept: it is handed back, and the note
-- knows the cell's own, which is what it knew before if it knew any NoMemory: it is handed back,
-- and the note knows what it knew
abbrev pub AfterRaise : Verdict → Option Verdict → Option Verdict → Raise → Type 0
AfterRaise passed old new Raised = (old ≡ None) × (new ≡ Some passed)
AfterRaise passed old new (Kept back) = (back ≡ passed) × ((kept : Verdict) × (new ≡ Some kept) × Agrees old kept)
AfterRaise passed old new (NoMemory back) = (back ≡ passed) × (new ≡ old)
