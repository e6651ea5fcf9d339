-- What a cut of a log promises. These are this project's own.
use Rattle.std.specs.Prelude.{ℕ, ◌≤◌, ◌<◌, ◌+◌, All, Bool, Contains, IsTrue, List, Some, length, nat_lt, slice_index_or}
use Rattle.rv_edges.specs.declared.ties.Tie.{Tie}
use Rattle.rv_event.specs.Log.{of_hart}
use Rattle.rv_event.specs.declared.event.Event.{Event}
use Rattle.rv_event.specs.declared.event.Id.{Id}
use Rattle.rv_event.specs.declared.memory_model.MemoryModel.{MemoryModel}
use Rattle.rv_settle.specs.Cuts.{IsCut}
use Rattle.rv_settle.specs.Windows.{IsBelow, LeavesReserved}
use Rattle.rv_cut.specs.Exclusives.{IsLastExclusive}

-- the number of the hart's first event that is kept, where the list has them by hart
abbrev pub first_of : List ℕ → ℕ → ℕ
first_of firsts hart = slice_index_or firsts hart 0

-- the event of this id belongs to the past
abbrev pub is_past : List ℕ → Id → Bool
is_past firsts i = nat_lt i.seq (first_of firsts i.hart)

-- no hart has more past than before
abbrev pub AreLower : List ℕ → List ℕ → Type 0
AreLower old new = (hart : ℕ) → first_of new hart ≤ first_of old hart

-- each tie to an event of the past leads from one of the past
abbrev pub AreClosed : List ℕ → List Tie → Type 0
AreClosed firsts ties = All (λ t. IsTrue (is_past firsts t.to) → IsTrue (is_past firsts t.from)) ties

-- the hart's last LR, SC or failed SC is of the past, and so many of its events or more stand behind it
pub record HasWaited (patience : ℕ) (log : List Event) (firsts : List ℕ) (hart : ℕ) : Type 0 where
  pub lr : Event
  pub last : IsLastExclusive log hart (Some lr)
  pub past : IsTrue (is_past firsts lr.id)
  pub long : lr.id.seq + patience < length (of_hart hart log)

-- The events below these numbers may be forgotten: they are the past of a cut; where they leave a hart with
-- a reservation, its LR has waited so long for an SC; and each hart has as many.
pub record IsCutOf (model : MemoryModel) (log : List Event) (active : List ℕ) (patience : ℕ) (firsts : List ℕ)
    : Type 0 where
  pub cut :
      (past : Event → Bool) → ((p : Event) → IsTrue (past p) → Contains log p) →
      IsBelow log past (first_of firsts) → IsCut model log active past
  pub waits : (hart : ℕ) → LeavesReserved (first_of firsts) log hart → HasWaited patience log firsts hart
  pub within : (hart : ℕ) → first_of firsts hart ≤ length (of_hart hart log)
