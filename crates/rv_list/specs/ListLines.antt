-- The lines that are read of a list, by its bytes where they are known.
use Rattle.std.specs.Prelude.{◌≡◌, ℕ, List, [], ◌∷◌, Option, None, Some, ⊤}
use Rattle.std.specs.Str.Lines.{lines}

-- one line is taken, and those behind it are left
abbrev pub TakesLine : Option (List ℕ) → Option (List ℕ) → List ℕ → Type 0
TakesLine None new line = ⊤
TakesLine (Some bytes) None line = ⊥
TakesLine (Some bytes) (Some left) line = lines bytes ≡ line ∷ lines left

-- none is left
abbrev pub NoLine : Option (List ℕ) → Type 0
NoLine None = ⊤
NoLine (Some bytes) = lines bytes ≡ []
