-- The last LR, SC or failed SC before an SC. Manual, section 14.1, "Memory Model Primitives": the SC
-- is paired with it where it is an LR.
use Rattle.std.specs.Prelude.{ℕ, ⊤, ◌≡◌, ◌<◌, ◌≤◌, List, Option, Some, None, All, Any, IsTrue}
use Rattle.rv_event.specs.Log.{Earlier}
use Rattle.rv_event.specs.Operations.{is_exclusive}
use Rattle.rv_event.specs.declared.event.Event.{Event}

-- an LR, SC or failed SC earlier in program order
pub record IsExclusiveBefore (sc m : Event) : Type 0 where
  pub exclusive : IsTrue (is_exclusive m.op)
  pub earlier : Earlier m sc

-- the highest number of one, none where there is none
abbrev pub IsLatest : List Event → Event → Option ℕ → Type 0
IsLatest log sc (Some n) =
    Any (λ m. IsExclusiveBefore sc m × (m.id.seq ≡ n)) log × All (λ m. IsExclusiveBefore sc m → m.id.seq ≤ n) log
IsLatest log sc None = All (λ m. IsExclusiveBefore sc m → ⊥) log

-- the number is above the other, where there is one
abbrev pub IsAbove : Option ℕ → ℕ → Type 0
IsAbove (Some n) k = n < k
IsAbove None k = ⊤
