-- What the LR returned with which an SC is paired.
use Rattle.std.specs.Prelude.{◌≡◌, ◌++◌, List, [], ◌∷◌, Contains, Option, Some, None}
use Rattle.rv_event.specs.Relations.{Paired}
use Rattle.rv_event.specs.declared.event.Event.{Event}
use Rattle.rv_versions.specs.declared.reservation.Reservation.{Reservation}

-- an LR of the log that is paired with the new event
pub record IsPartner (log : List Event) (e lr : Event) : Type 0 where
  pub of_log : Contains log lr
  pub paired : Paired (log ++ e ∷ []) lr e

-- the word and the version that the event's LR returned, exactly where the event is paired with one
abbrev pub IsReserved : List Event → Event → Option Reservation → Type 0
IsReserved log e (Some r) = (lr : Event) × IsPartner log e lr × (lr.word ≡ r.word) × (lr.read ≡ r.version)
IsReserved log e None = (lr : Event) → IsPartner log e lr → ⊥
