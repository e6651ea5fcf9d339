-- What the steps of a judgement tell.
use Rattle.std.specs.Prelude.{ℕ, ◌≡◌, ◌≤◌, ◌<◌, ◌+◌, ◌++◌, ◌∷◌, [], Bool, Contains, IsTrue, List}
use Rattle.std.specs.Prelude.{None, Option, Some, length, slice_index_or, slice_set}
use Rattle.rv_book.specs.Booked.{IsForbiddenOn, IsTaken}
use Rattle.rv_cut.specs.Cuts.{first_of}
use Rattle.rv_event.specs.Faults.{fault_of}
use Rattle.rv_event.specs.Log.{events, of_hart}
use Rattle.rv_event.specs.Texts.{fault_number}
use Rattle.rv_event.specs.WellFormed.{WellFormedWithin}
use Rattle.rv_event.specs.declared.event.Entry.{Entry}
use Rattle.rv_event.specs.declared.event.Event.{Event}
use Rattle.rv_event.specs.declared.fault.Fault.{Fault}
use Rattle.rv_past.specs.declared.edge.PastEdge.{PastEdge}
use Rattle.rv_past.specs.declared.facts.Misfit.{Misfit}
use Rattle.rv_settle.specs.Fitting.{in_full}
use Rattle.rv_settle.specs.Windows.{IsBelow, IsKept, KeepsFew, KeepsPairs}
use Rattle.rv_endless.specs.Runs.{HasNumber, HasStopped, in_window, limit, misfit_answer, misfit_number}
use Rattle.rv_endless.specs.declared.answer.Answer.{Answer}
use Rattle.rv_endless.specs.declared.answer.Answer.TheVariants as answer
use Rattle.rv_endless.specs.declared.answer.Answer.TheVariants.{Accepted, BeforePast, Forbidden}
use Rattle.rv_endless.specs.declared.answer.Answer.TheVariants.{Malformed, NoMemory}
use Rattle.rv_endless.specs.declared.answer.Answer.TheVariants.{Stopped, Taken}
use Rattle.rv_endless.specs.declared.run.Endless.{Endless}

-- the answer tells the fault over the window, in the log's numbers
abbrev pub IsToldInFull : List ℕ → ℕ → Fault → Answer → Type 0
IsToldInFull firsts hart f told =
    HasNumber (in_full (first_of firsts) hart f) → told ≡ Malformed (in_full (first_of firsts) hart f)

-- the answer tells the first of what the entry doesn't fit and of its fault over the window
abbrev pub IsExplained : List ℕ → ℕ → Misfit → Option Fault → Answer → Type 0
IsExplained firsts hart m None told = told ≡ misfit_answer m
IsExplained firsts hart m (Some f) told =
    (fault_number f < misfit_number m → IsToldInFull firsts hart f told)
    × (misfit_number m ≤ fault_number f → told ≡ misfit_answer m)

-- the answer tells the entry's fault over the window, and else the edge by which it comes before the past
abbrev pub IsEdgeExplained : List ℕ → ℕ → PastEdge → Option Fault → Answer → Type 0
IsEdgeExplained firsts hart edge None told = told ≡ BeforePast edge
IsEdgeExplained firsts hart edge (Some f) told = IsToldInFull firsts hart f told

-- the run has one event more of the hart, and this book
abbrev pub counted_with : Endless → Endless → ℕ → Endless
counted_with old new hart =
    record old {
      book = new.book;
      counts = slice_set old.counts hart (slice_index_or old.counts hart 0 + 1);
    }

-- what the book told of the entry, as the window has it
abbrev pub IsOffered : Endless → Endless → Entry → Answer → Type 0
IsOffered old new x Accepted = IsTaken old.book new.book x × (new ≡ counted_with old new x.event.id.hart)
IsOffered old new x (Malformed f) =
    ((g : Fault) × (fault_of old.book.log x ≡ Some g) × IsToldInFull old.firsts x.event.id.hart g (Malformed f))
    × HasStopped old new
IsOffered old new x Taken = ⊥
IsOffered old new x (Forbidden r) = IsForbiddenOn old.book.model old.book.log x r × HasStopped old new
IsOffered old new x (BeforePast edge) = ⊥
IsOffered old new x (answer.Beyond b) = ⊥
IsOffered old new x Stopped = IsTrue old.book.stopped
IsOffered old new x NoMemory = new ≡ old

-- the past has the events of the log that were forgotten
pub record IsPastOf (run : Endless) (log : List Entry) (past : Event → Bool) : Type 0 where
  pub of_log : (p : Event) → IsTrue (past p) → Contains (events log) p
  pub below : IsBelow (events log) past (first_of run.firsts)

-- the log stays well formed with the entry, which is kept and comes after its hart's others in the
-- window, and what was forgotten stays what it was
pub record Joins (run : Endless) (log : List Entry) (x : Entry) : Type 0 where
  pub formed : WellFormedWithin limit (log ++ x ∷ [])
  pub kept : IsKept (first_of run.firsts) x.event
  pub last : length (of_hart x.event.id.hart (events run.book.log)) ≤ (in_window run x).event.id.seq
  pub pairs : KeepsPairs (first_of run.firsts) (events (log ++ x ∷ []))
  pub few : KeepsFew (first_of run.firsts) (events (log ++ x ∷ []))
