-- What a reply to C tells of the monitor before and after.
use Rattle.std.specs.Prelude.{ℕ, ◌≡◌, ◌==◌, ◌<◌, ◌≤◌, ◌++◌, List, [], Option, Some, None, IsFalse, drop, length, map}
use Rattle.std.specs.Prelude.{if◌then◌else◌, take, ⊤}
use Rattle.std.specs.List.{Contains}
use Rattle.rv_event.specs.declared.event.Entry.{Entry}
use Rattle.rv_event.specs.declared.memory_model.MemoryModel.{MemoryModel}
use Rattle.rv_event.specs.declared.memory_model.MemoryModel.TheVariants.{Rvwmo, Ztso}
use Rattle.rv_book.specs.Counts.{operations_of, waiting_of}
use Rattle.rv_event.specs.Texts.{◌⋯◌}
use Rattle.rv_report.specs.Json.{json_text}
use Rattle.rv_report.specs.Texts.{line_feed, report_text}
use Rattle.rv_monitor.specs.Watched.{IsAnswered, IsExplained, Watched, outcome_of}
use Rattle.rv_monitor.specs.declared.monitor.Answer.{Answer}
use Rattle.rv_monitor.specs.declared.monitor.Answer.TheVariants as answer
use Rattle.rv_c.specs.Events.{IsWritten, dep_of, op_of}
use Rattle.rv_c.specs.declared.form.Form.{Form}
use Rattle.rv_c.specs.declared.form.Form.TheVariants as form
use Rattle.rv_c.specs.declared.counts.RvmonCounts.{RvmonCounts}
use Rattle.rv_c.specs.declared.event.RvmonDep.{RvmonDep}
use Rattle.rv_c.specs.declared.event.RvmonEvent.{RvmonEvent}
use Rattle.rv_c.specs.declared.reply.Reply.{Reply}
use Rattle.rv_c.specs.declared.reply.Reply.TheVariants as reply

-- the number of a reply
abbrev pub code_of : Reply → ℕ
code_of reply.Accepted = 0
code_of reply.Malformed = 1
code_of reply.Forbidden = 2
code_of reply.Stopped = 3
code_of reply.NoMemory = 4
code_of reply.NotOpen = 5
code_of reply.AlreadyOpen = 6
code_of reply.UnknownModel = 7
code_of reply.UnknownOperation = 8
code_of reply.TooManyDependencies = 9
code_of reply.UnknownDependency = 10
code_of reply.UnknownForm = 11
code_of reply.TooShort = 12

-- the model of a number: 0 RVWMO, 1 Ztso
abbrev pub model_of : ℕ → Option MemoryModel
model_of n = if n == 0 then Some Rvwmo else if n == 1 then Some Ztso else None

-- a monitor without events, under a model
pub record IsNew (model : MemoryModel) (w : Watched) : Type 0 where
  pub model_is : w.book.model ≡ model
  pub log : w.book.log ≡ []
  pub going : IsFalse w.book.stopped
  pub refusal : w.refusal ≡ None

-- opening: there was none, and there is a new one; or nothing changed, for this reason
abbrev pub IsOpened : Option Watched → Option Watched → ℕ → Reply → Type 0
IsOpened old new model reply.Accepted =
    (old ≡ None) × (m : MemoryModel) × (model_of model ≡ Some m) × (w : Watched) × (new ≡ Some w) × IsNew m w
IsOpened old new model reply.UnknownModel = (model_of model ≡ None) × (new ≡ old)
IsOpened old new model reply.AlreadyOpen = (w : Watched) × (old ≡ Some w) × (new ≡ old)
IsOpened old new model reply.NoMemory = new ≡ old
IsOpened old new model _ = ⊥

-- the reply of an answer
abbrev pub reply_of : Answer → Reply
reply_of answer.Accepted = reply.Accepted
reply_of answer.Malformed = reply.Malformed
reply_of answer.Forbidden = reply.Forbidden
reply_of answer.Stopped = reply.Stopped
reply_of answer.NoMemory = reply.NoMemory

-- the reply is the answer of the monitor to the entry that the event says
pub record IsOfferedTo (old new : Option Watched) (e : RvmonEvent) (r : Reply) : Type 0 where
  pub before : Watched
  pub was : old ≡ Some before
  pub after : Watched
  pub is : new ≡ Some after
  pub entry : Entry
  pub written : IsWritten e entry
  pub answer : Answer
  pub answered : IsAnswered before after entry answer
  pub replied : r ≡ reply_of answer

-- a dependency is of no kind
abbrev pub AreUnwritten : List RvmonDep → Reply → Type 0
AreUnwritten ds reply.UnknownDependency = Contains (map dep_of ds) None
AreUnwritten ds reply.NoMemory = ⊤
AreUnwritten ds _ = ⊥

-- the numbers say no entry, for this reason
abbrev pub IsUnwritten : RvmonEvent → Reply → Type 0
IsUnwritten e reply.UnknownOperation = op_of e ≡ None
IsUnwritten e reply.TooManyDependencies = 8 < e.count
IsUnwritten e reply.UnknownDependency = AreUnwritten (take e.count e.deps) reply.UnknownDependency
IsUnwritten e reply.NoMemory = ⊤
IsUnwritten e _ = ⊥

-- offering: the monitor answered; or nothing changed, for this reason
abbrev pub IsOffered : Option Watched → Option Watched → RvmonEvent → Reply → Type 0
IsOffered old new e reply.Accepted = IsOfferedTo old new e reply.Accepted
IsOffered old new e reply.Malformed = IsOfferedTo old new e reply.Malformed
IsOffered old new e reply.Forbidden = IsOfferedTo old new e reply.Forbidden
IsOffered old new e reply.Stopped = IsOfferedTo old new e reply.Stopped
IsOffered old new e reply.NoMemory = new ≡ old
IsOffered old new e reply.NotOpen = (old ≡ None) × (new ≡ old)
IsOffered old new e reply.UnknownOperation = IsUnwritten e reply.UnknownOperation × (new ≡ old)
IsOffered old new e reply.TooManyDependencies = IsUnwritten e reply.TooManyDependencies × (new ≡ old)
IsOffered old new e reply.UnknownDependency = IsUnwritten e reply.UnknownDependency × (new ≡ old)
IsOffered old new e _ = ⊥

-- counting: the numbers of the events so far; or none is open, and nothing changed
pub record AreCountsOf (w : Watched) (c : RvmonCounts) : Type 0 where
  pub events : c.events ≡ length w.book.log
  pub operations : c.operations ≡ operations_of w.book.log
  pub waiting : c.waiting ≡ waiting_of w.book.log

abbrev pub AreCounted : Option Watched → RvmonCounts → RvmonCounts → Reply → Type 0
AreCounted old was is reply.Accepted = (w : Watched) × (old ≡ Some w) × AreCountsOf w is
AreCounted old was is reply.NotOpen = (old ≡ None) × (is ≡ was)
AreCounted old was is _ = ⊥

-- the form of a number: 0 the report, 1 JSON, 2 the report and an explanation
abbrev pub form_of : ℕ → Option Form
form_of n =
    if n == 0 then Some form.Report
    else if n == 1 then Some form.Json
    else if n == 2 then Some form.Explained
    else None

abbrev pub IsTextIn : Watched → Option Form → List ℕ → Type 0
IsTextIn w (Some form.Report) text = text ≡ report_text (outcome_of w)
IsTextIn w (Some form.Json) text = text ≡ json_text (outcome_of w) ⋯ line_feed
IsTextIn w (Some form.Explained) text = IsExplained (outcome_of w) text
IsTextIn w None text = ⊥

abbrev pub IsTextOf : Watched → ℕ → List ℕ → Type 0
IsTextOf w form text = IsTextIn w (form_of form) text

-- the form is none of these
abbrev pub IsNoForm : ℕ → Type 0
IsNoForm form = form_of form ≡ None

-- a text of an open monitor, with its length
pub record IsMeasured (old : Option Watched) (form : ℕ) (text : List ℕ) (size : ℕ) : Type 0 where
  pub watched : Watched
  pub open_is : old ≡ Some watched
  pub text_is : IsTextOf watched form text
  pub size_is : size ≡ length text

-- a text stands at the beginning of a buffer whose rest is as it was, or there is no room for it
abbrev pub IsWrittenTo : List ℕ → (was is : List ℕ) → Reply → Type 0
IsWrittenTo text was is reply.Accepted = (length text ≤ length was) × (is ≡ text ++ drop (length text) was)
IsWrittenTo text was is reply.TooShort = (length was < length text) × (is ≡ was)
IsWrittenTo text was is _ = ⊥

-- Telling: the text stands in the buffer, which has room for it, and the rest of the buffer is as it
-- was; or it has no room, and the length alone is told; or nothing is, for this reason.
abbrev pub IsToldTo : Option Watched → ℕ → (was is : List ℕ) → (old new : ℕ) → Reply → Type 0
IsToldTo w form was is old new reply.Accepted =
    (text : List ℕ) × IsMeasured w form text new × IsWrittenTo text was is reply.Accepted
IsToldTo w form was is old new reply.TooShort =
    (text : List ℕ) × IsMeasured w form text new × IsWrittenTo text was is reply.TooShort
IsToldTo w form was is old new reply.NotOpen = (w ≡ None) × (is ≡ was) × (new ≡ old)
IsToldTo w form was is old new reply.UnknownForm = IsNoForm form × (is ≡ was) × (new ≡ old)
IsToldTo w form was is old new reply.NoMemory = (is ≡ was) × (new ≡ old)
IsToldTo w form was is old new _ = ⊥
