-- What is known of the events of a hart that open or close a reservation. These are this project's own.
use Rattle.std.specs.Prelude.{ℕ, ◌≡◌, ◌≤◌, Contains, IsTrue, List, None, Option, Some}
use Rattle.rv_event.specs.Operations.{is_exclusive}
use Rattle.rv_event.specs.declared.event.Event.{Event}

-- an LR, SC or failed SC of the hart
pub record IsExclusiveOf (log : List Event) (hart : ℕ) (e : Event) : Type 0 where
  pub of_log : Contains log e
  pub own : e.id.hart ≡ hart
  pub exclusive : IsTrue (is_exclusive e.op)

-- the last of them, where there is one
abbrev pub IsLastExclusive : List Event → ℕ → Option Event → Type 0
IsLastExclusive log hart (Some m) =
    IsExclusiveOf log hart m × ((e : Event) → IsExclusiveOf log hart e → e.id.seq ≤ m.id.seq)
IsLastExclusive log hart None = (e : Event) → IsExclusiveOf log hart e → ⊥
