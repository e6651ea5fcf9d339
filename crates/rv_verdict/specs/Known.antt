-- What a note knows of its cell.
use Rattle.std.specs.Prelude.{◌≡◌, ℕ, Some, IfSome}
use Rattle.std.specs.declared.option.Option.{Option}
use Rattle.rv_cert.specs.declared.verdict.Verdict.{Verdict}

-- the name of a cell, and its verdict once it was seen
pub record Known : Type 0 where
  pub cell : ℕ
  pub verdict : Option Verdict

-- a note of the same cell, which knows what was known before
abbrev pub StillKnows : Known → Known → Type 0
StillKnows old new = (new.cell ≡ old.cell) × IfSome old.verdict (λ v. new.verdict ≡ Some v)
