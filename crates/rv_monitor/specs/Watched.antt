-- A book that keeps its refusal, and what it tells of events that are offered one by one.
use Rattle.std.specs.Prelude.{ℕ, ◌≡◌, List, [], Option, Some, None, IsFalse, IsTrue, length, true}
use Rattle.rv_event.specs.declared.event.Entry.{Entry}
use Rattle.rv_cert.specs.Refusals.{FaultyLog, Refusal}
use Rattle.rv_book.specs.Booked.{Booked, IsForbiddenOn, IsMalformedOn, IsTaken}
use Rattle.rv_book.specs.Counts.{operations_of, waiting_of}
use Rattle.rv_event.specs.Texts.{◌⋯◌}
use Rattle.rv_explain.specs.Outcomes.{IsTold}
use Rattle.rv_explain.specs.RowTexts.{Said}
use Rattle.rv_report.specs.Texts.{report_text}
use Rattle.rv_report.specs.declared.outcome.Outcome.{Outcome}
use Rattle.rv_report.specs.declared.outcome.Outcome.TheVariants as outcome
use Rattle.rv_monitor.specs.declared.monitor.Answer.{Answer}
use Rattle.rv_monitor.specs.declared.monitor.Answer.TheVariants.{Accepted, Forbidden, Malformed, NoMemory, Stopped}

-- what contracts see of a monitor: its book, and the refusal by which that stopped
pub record Watched : Type 0 where
  pub book : Booked
  pub refusal : Option Outcome

-- the book has stopped by this refusal
abbrev pub stopped_by : Watched → Outcome → Watched
stopped_by w o = record { book = record w.book { stopped = true }; refusal = Some o }

-- what an answer tells of an event and of the monitor before and after; that it has stopped is told
-- just where it had
abbrev pub IsAnswered : Watched → Watched → Entry → Answer → Type 0
IsAnswered old new x Accepted = IsFalse old.book.stopped × IsTaken old.book new.book x × (new.refusal ≡ None)
IsAnswered old new x Malformed =
    IsFalse old.book.stopped × (m : FaultyLog) × IsMalformedOn old.book.model old.book.log x m
    × (new ≡ stopped_by old (outcome.Malformed m))
IsAnswered old new x Forbidden =
    IsFalse old.book.stopped × (f : Refusal) × IsForbiddenOn old.book.model old.book.log x f
    × (new ≡ stopped_by old (outcome.Forbidden f))
IsAnswered old new x Stopped = IsTrue old.book.stopped × (new ≡ old)
IsAnswered old new x NoMemory = IsFalse old.book.stopped × (new ≡ old)

-- what events come to: the refusal, or that all were accepted
abbrev pub outcome_by : Booked → Option Outcome → Outcome
outcome_by book (Some o) = o
outcome_by book None = outcome.Allowed (length book.log) (operations_of book.log) (waiting_of book.log)

abbrev pub outcome_of : Watched → Outcome
outcome_of w = outcome_by w.book w.refusal

-- the report of an outcome, and behind it why an event was refused, where nothing more is known of
-- its source and its row
pub record IsExplained (o : Outcome) (text : List ℕ) : Type 0 where
  pub said : Said
  pub silent : (source row : ℕ) → said source row ≡ None
  pub told : List ℕ
  pub is_told : IsTold [] said o told
  pub bytes : text ≡ report_text o ⋯ told
