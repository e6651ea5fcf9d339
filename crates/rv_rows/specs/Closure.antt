-- Rows that are closed: what a member of a row has, the row has.
use Rattle.std.specs.Prelude.{ℕ, ◌≡◌, ◌≢◌, ◌≤◌, ◌&&◌, not, List, [], Option, Some, None, Contains, slice_index_or}
use Rattle.rv_rows.specs.Bits.{Has, has_bit, IsHighest}

-- row b of the rows has j
abbrev pub RowHas : List (List ℕ) → ℕ → ℕ → Type 0
RowHas rows b j = Has (slice_index_or rows b []) j

-- a row has nothing above its number, and what its members' rows have
pub record IsClosed (rows : List (List ℕ)) : Type 0 where
  pub below : (b j : ℕ) → RowHas rows b j → j ≤ b
  pub closed : (b c j : ℕ) → RowHas rows b c → RowHas rows c j → RowHas rows b j

-- the highest number of the set was taken out of it, with all that its row has; none, where the set
-- is empty
abbrev pub IsTaken : List (List ℕ) → List ℕ → Option ℕ → List ℕ → Type 0
IsTaken rows old (Some n) new =
    IsHighest old (Some n) × ((j : ℕ) → has_bit new j ≡ (has_bit old j && not (has_bit (slice_index_or rows n []) j)))
IsTaken rows old None new = IsHighest old None × (new ≡ old)

-- the row of a number that was taken has j
pub record IsReached (rows : List (List ℕ)) (taken : List ℕ) (j : ℕ) : Type 0 where
  pub b : ℕ
  pub is_taken : Contains taken b
  pub has : RowHas rows b j

-- the candidates that stand in no other candidate's row were taken, and each candidate stands in
-- the row of one of these
pub record IsThinned (rows : List (List ℕ)) (candidates taken : List ℕ) : Type 0 where
  pub only : (b : ℕ) → Contains taken b → Has candidates b
  pub each : (a : ℕ) → Has candidates a → IsReached rows taken a
  pub unsplit : (a c : ℕ) → Contains taken a → Has candidates c → c ≢ a → RowHas rows c a → ⊥
