-- What bits are by the tables.
use Rattle.std.specs.Prelude.{ℕ, ◌%◌, ◌^◌, ◌==◌, List, Option, Some, None, Result, Ok, Err}
use Rattle.std.specs.Prelude.{option_map, if◌then◌else◌}
use Rattle.std.specs.List.{find}
use Rattle.rv_insn.specs.Compressed.{compressed}
use Rattle.rv_insn.specs.Encodings.{encodings}
use Rattle.rv_insn.specs.Lines.{Line, fits}
use Rattle.rv_insn.specs.Operands.{insn_of}
use Rattle.rv_insn.specs.declared.insn.Insn.{Insn}
use Rattle.rv_insn.specs.declared.insn.Width.{Width}
use Rattle.rv_insn.specs.declared.line.Meaning.{Meaning}
use Rattle.rv_insn.specs.declared.line.Meaning.TheVariants.{Is, Refused}
use Rattle.rv_insn.specs.declared.undecoded.Undecoded.{Undecoded}
use Rattle.rv_insn.specs.declared.undecoded.Undecoded.TheVariants.{Unknown}

-- what a line's meaning makes of the bits that fit it
abbrev pub meant : Option Meaning → ℕ → Result Insn Undecoded
meant (Some (Is operation format)) bits = Ok (insn_of operation format bits)
meant (Some (Refused why)) bits = Err why
meant None bits = Err Unknown

-- what the bits are by a table: what its line means that they fit
abbrev pub by_table : List Line → Width → ℕ → Result Insn Undecoded
by_table lines w bits = meant (option_map (λ l. l.meaning) (find (fits w bits) lines)) bits

-- what the bits are: an instruction of 32 bits where the low two are 11, else one of 16 bits
abbrev pub decoded : Width → ℕ → Result Insn Undecoded
decoded w bits =
    if (bits % 4 == 3) then by_table encodings w bits else by_table compressed w (bits % 2 ^ 16)
