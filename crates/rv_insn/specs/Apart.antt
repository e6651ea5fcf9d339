-- No bits fit two lines of a table.
use Rattle.std.specs.Prelude.{ℕ, List, [], ◌∷◌, Contains, IsTrue, ⊤}
use Rattle.rv_insn.specs.Lines.{Line, fits}
use Rattle.rv_insn.specs.declared.insn.Width.{Width}

-- at no width of registers do any bits fit both lines
abbrev pub ShareNone : Line → Line → Type 0
ShareNone l m = (w : Width) (bits : ℕ) → IsTrue (fits w bits l) → IsTrue (fits w bits m) → ⊥

-- no bits fit two lines of the table
abbrev pub AreApart : List Line → Type 0
AreApart [] = ⊤
AreApart (l ∷ lines) = ((m : Line) → Contains lines m → ShareNone l m) × AreApart lines
