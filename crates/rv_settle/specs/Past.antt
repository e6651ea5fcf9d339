-- How a new event can come before the past: the versions tell. These are this project's own.
use Rattle.std.specs.Prelude.{◌≡◌, ◌≢◌, ◌<◌, Bool, Contains, IsTrue, List}
use Rattle.rv_event.specs.Operations.{IsLoad, IsStore}
use Rattle.rv_event.specs.Relations.{Paired}
use Rattle.rv_event.specs.declared.event.Event.{Event}

-- e, an event of the log, loads or stores below a version of its word that the past wrote; or it
-- stores the version that the past returned; or it is an SC, and the past has another hart's store
-- of its LR's word above what that returned
pub data ComesBeforePast (log : List Event) (past : Event → Bool) (e : Event) : Type 0 where
  loads_below :
      (p : Event) → IsTrue (past p) → IsStore p → IsLoad e → p.word ≡ e.word → e.read < p.wrote →
      ComesBeforePast log past e
  stores_below :
      (p : Event) → IsTrue (past p) → IsStore p → IsStore e → e.word ≡ p.word → e.wrote < p.wrote →
      ComesBeforePast log past e
  stores_what_was_returned :
      (p : Event) → IsTrue (past p) → IsLoad p → IsStore e → p.word ≡ e.word → p.read ≡ e.wrote →
      ComesBeforePast log past e
  stores_too_late :
      (lr p : Event) → Contains log lr → Paired log lr e → IsTrue (past p) → IsStore p → p.word ≡ lr.word →
      p.id.hart ≢ e.id.hart → lr.read < p.wrote → ComesBeforePast log past e
