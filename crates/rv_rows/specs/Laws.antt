-- What a whole sweep takes.
use Rattle.std.specs.Prelude.{ℕ, List, [], ◌∷◌, Some, None}
use Rattle.rv_rows.specs.Bits.{Has, IsHighest}
use Rattle.rv_rows.specs.Closure.{RowHas, IsClosed, IsTaken, IsThinned}

-- steps took these numbers, one after the other, until no candidate was left
abbrev pub IsSwept : List (List ℕ) → List ℕ → List ℕ → Type 0
IsSwept rows candidates [] = IsHighest candidates None
IsSwept rows candidates (n ∷ taken) =
    (left : List ℕ) × IsTaken rows candidates (Some n) left × IsSwept rows left taken

-- where the rows are closed, and each candidate is in its own row, a sweep thins the candidates
abbrev pub SweepsThin : Type 0
SweepsThin =
    (rows : List (List ℕ)) (candidates taken : List ℕ) → IsClosed rows →
    ((j : ℕ) → Has candidates j → RowHas rows j j) →
    IsSwept rows candidates taken → IsThinned rows candidates taken
