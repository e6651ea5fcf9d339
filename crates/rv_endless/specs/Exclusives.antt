-- What is known of the LRs, SCs and failed SCs that were forgotten. These are this project's own.
use Rattle.std.specs.Prelude.{ℕ, ◌≡◌, List, None, Option, Some, slice_index_or}
use Rattle.rv_cut.specs.Exclusives.{IsLastExclusive}
use Rattle.rv_event.specs.Faults.{is_lr}
use Rattle.rv_event.specs.declared.event.Event.{Event}
use Rattle.rv_endless.specs.declared.exclusives.Exclusive.{Exclusive}

-- the last LR, SC or failed SC of the hart among the events has this number, and is an LR or not
pub record HasLast (gone : List Event) (hart : ℕ) (l : Exclusive) : Type 0 where
  pub event : Event
  pub last : IsLastExclusive gone hart (Some event)
  pub seq : event.id.seq ≡ l.seq
  pub lr : is_lr event.op ≡ l.is_lr

-- so it is, exactly where the hart has one among them
abbrev pub IsLastOf : List Event → ℕ → Option Exclusive → Type 0
IsLastOf gone hart (Some l) = HasLast gone hart l
IsLastOf gone hart None = IsLastExclusive gone hart None

-- and so for each hart
abbrev pub AreLast : List Event → List (Option Exclusive) → Type 0
AreLast gone last = (hart : ℕ) → IsLastOf gone hart (slice_index_or last hart None)
