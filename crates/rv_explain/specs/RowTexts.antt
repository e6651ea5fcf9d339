-- What is said of rows.
use Rattle.std.specs.Prelude.{ℕ, ◌≡◌, ◌&&◌, ◌==◌, Bool, false, List, Option, Some, option_map}
use Rattle.std.specs.Prelude.{string_bytes}
use Rattle.std.specs.HashMap.{get}
use Rattle.rv_explain.specs.declared.row_texts.RowTexts.{RowTexts}

-- the text of each row, by its source and its number, where there is one
abbrev pub Said : Type 0
Said = ℕ → ℕ → Option (List ℕ)

-- one row of one source
abbrev pub same_row : ℕ × ℕ → ℕ × ℕ → Bool
same_row x y = (x.0 == y.0) && (x.1 == y.1)

-- those that are kept
abbrev pub said_by : RowTexts → Said
said_by t source row = option_map string_bytes (get same_row t.texts (source, row))

-- this text is that of its row now, and the others are those of before
pub record IsNoted (old : Said) (source row : ℕ) (text : List ℕ) (new : Said) : Type 0 where
  pub this : new source row ≡ Some text
  pub others : (s r : ℕ) → same_row (source, row) (s, r) ≡ false → new s r ≡ old s r

abbrev pub AreSame : Said → Said → Type 0
AreSame new old = (s r : ℕ) → new s r ≡ old s r
