-- The lines of the tables of encodings, and which bits fit them.
use Rattle.std.specs.Prelude.{ℕ, Bool, true, false, ◌&&◌, ◌==◌, not, List, [], ◌∷◌, bit_and, take}
use Rattle.std.specs.List.{list_all}
use Rattle.rv_insn.specs.declared.insn.Width.{Width}
use Rattle.rv_insn.specs.declared.insn.Width.TheVariants.{Rv32, Rv64}
use Rattle.rv_insn.specs.declared.line.Line.{Line as Row}
use Rattle.rv_insn.specs.declared.line.Meaning.{Meaning}
use Rattle.rv_insn.specs.declared.line.Widths.{Widths}
use Rattle.rv_insn.specs.declared.line.Widths.TheVariants.{Both, Only32, Only64}

-- A line of a table: the pattern that bits have under the mask which fit, at which widths of
-- registers, and what they mean. Bits that have an excepted pattern under its mask do not fit.
pub record Line : Type 0 where
  pub mask : ℕ
  pub pattern : ℕ
  pub widths : Widths
  pub meaning : Meaning
  pub except : List (ℕ × ℕ)

-- the line holds at the width
abbrev pub is_of : Width → Widths → Bool
is_of w Both = true
is_of Rv32 Only32 = true
is_of Rv64 Only32 = false
is_of Rv32 Only64 = false
is_of Rv64 Only64 = true

-- the bits have the pattern under the mask
abbrev pub has : ℕ → ℕ → ℕ → Bool
has bits mask pattern = bit_and bits mask == pattern

-- the bits fit the line
abbrev pub fits : Width → ℕ → Line → Bool
fits w bits l =
    is_of w l.widths && has bits l.mask l.pattern && list_all (λ e. not (has bits e.0 e.1)) l.except

-- no bits have this pattern
abbrev pub never : ℕ × ℕ
never = (0, 1)

-- a line without exceptions
abbrev pub line : ℕ → ℕ → Widths → Meaning → Line
line mask pattern widths meaning = record {
  mask = mask;
  pattern = pattern;
  widths = widths;
  meaning = meaning;
  except = never ∷ never ∷ [];
}

-- a line with one exception more
infixl 20 ◌but◌
abbrev pub ◌but◌ : Line → ℕ × ℕ → Line
l but e = record l { except = e ∷ take 1 l.except }

-- a line of the program's table
abbrev pub line_of : Row → Line
line_of row = record {
  mask = row.0;
  pattern = row.1;
  widths = row.2;
  meaning = row.3;
  except = row.4 ∷ row.5 ∷ [];
}
