-- When an event has an edge to itself.
use Rattle.std.specs.Prelude.{◌≡◌, ◌⊎◌, Option, Some}
use Rattle.rv_event.specs.Operations.{IsLoad, IsStore}
use Rattle.rv_event.specs.declared.event.Event.{Event}
use Rattle.rv_versions.specs.declared.reservation.Reservation.{Reservation}

-- its LR returned what the SC itself writes
pub record ReservedOwn (e : Event) (reserved : Option Reservation) : Type 0 where
  pub reservation : Reservation
  pub is_reserved : reserved ≡ Some reservation
  pub word : reservation.word ≡ e.word
  pub version : reservation.version ≡ e.wrote

-- it stores, and it or its LR returned what it stores
abbrev pub ReturnsOwn : Event → Option Reservation → Type 0
ReturnsOwn e reserved = IsStore e × ((IsLoad e × (e.read ≡ e.wrote)) ⊎ ReservedOwn e reserved)
