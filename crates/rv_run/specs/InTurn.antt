-- Sources whose events a book takes in turn, in one thread.
use Rattle.std.specs.Prelude.{◌≡◌, ◌++◌, ◌<◌, ℕ, suc, List, [], ◌∷◌, Option, Some, None, IsSome, IfSome, IsTrue}
use Rattle.std.specs.Prelude.{All, length, map, slice_index_or, ⊤}
use Rattle.rv_event.specs.WellFormed.{WellFormed}
use Rattle.rv_event.specs.declared.event.Event.{Event}
use Rattle.rv_event.specs.declared.event.Entry.{Entry}
use Rattle.rv_event.specs.declared.memory_model.MemoryModel.{MemoryModel}
use Rattle.rv_cert.specs.Refusals.{IsFinal}
use Rattle.rv_book.specs.Booked.{Booked, IsMalformedOn}
use Rattle.rv_book.specs.Chunked.{entries_of, given_by}
use Rattle.rv_trace.specs.Calls.{IsAtEnd}
use Rattle.rv_trace.specs.Chunks.{TakesEvents}
use Rattle.rv_trace.specs.Source.{Stream}
use Rattle.rv_trace.specs.Trace.{TakesEvent, TraceLeft}
use Rattle.rv_replay.specs.Replays.{IsAllowed}
use Rattle.rv_report.specs.declared.outcome.Outcome.{Outcome}
use Rattle.rv_report.specs.declared.outcome.Outcome.TheVariants.{Allowed, Forbidden, Malformed}
use Rattle.rv_run.specs.Completeness.{Lacks}
use Rattle.rv_run.specs.Outcomes.{IfAllowed, IfForbidden, IfMalformed}
use Rattle.rv_run.specs.Reads.{SourceRead}
use Rattle.rv_run.specs.Sources.{AreAllowed, AreCovered, AreForbidden, AreMalformed, EndsIn}
use Rattle.rv_run.specs.Strengths.{AreTested, IsToldWhere}
use Rattle.rv_run.specs.declared.fault.RunFault.{RunFault}
use Rattle.rv_run.specs.declared.fault.RunFault.TheVariants.{Trace, NoMemory, Lost, Settings}
use Rattle.rv_run.specs.declared.feeding.FeedEnd.TheVariants as end
use Rattle.rv_run.specs.declared.in_turn.TurnEnd.{TurnEnd}
use Rattle.rv_run.specs.declared.in_turn.TurnEnd.TheVariants.{More, Whole, Refused}
use Rattle.rv_run.specs.declared.judging.Judged.{Judged}
use Rattle.rv_run.specs.declared.judging.Question.{Question}

-- an event as an entry of a source
abbrev pub entry_of : ℕ → Event → Entry
entry_of source e = record { source = source; event = e }

-- what a trace, or each of them, still gives
abbrev pub streams_left : List TraceLeft → List (Option Stream)
streams_left traces = map (λ t. t.stream) traces

-- ---- the turn of one source
-- the book has taken events that the trace gave, which has met no fault
pub record HasTaken (source : ℕ) (before after : TraceLeft) (old new : Booked) : Type 0 where
  pub events : List Event
  pub taken : TakesEvents before.stream after.stream events
  pub good : after.fault ≡ None
  pub log : new.log ≡ old.log ++ entries_of source events
  pub model : new.model ≡ old.model
  pub stopped : new.stopped ≡ old.stopped

-- the entry is refused over the log, which is well formed
abbrev pub IsRefusedOver : MemoryModel → List Entry → Entry → Outcome → Type 0
IsRefusedOver model log x (Malformed m) = IsMalformedOn model log x m × WellFormed log
IsRefusedOver model log x (Forbidden f) =
    (f.model ≡ model) × (f.evidence ≡ log ++ x ∷ []) × WellFormed f.evidence × IsFinal model f.evidence
IsRefusedOver model log x (Allowed events operations waiting) = ⊥

-- the source's next event is refused, behind those that the book has taken
pub record IsRefusedTurn (source : ℕ) (before : TraceLeft) (old : Booked) (o : Outcome) : Type 0 where
  pub trace : TraceLeft
  pub book : Booked
  pub taken : HasTaken source before trace old book
  pub event : Event
  pub behind : Option Stream
  pub next : TakesEvent trace.stream behind event
  pub refused : IsRefusedOver old.model book.log (entry_of source event) o

-- the trace has given all that the source has
abbrev pub IsOver : TraceLeft → Type 0
IsOver t = IsAtEnd t.ended t.said t.stream

-- how a turn ended is true of it
abbrev pub IsTurn : ℕ → TraceLeft → TraceLeft → Booked → Booked → TurnEnd → Type 0
IsTurn source before after old new More = HasTaken source before after old new
IsTurn source before after old new Whole = HasTaken source before after old new × IsOver after
IsTurn source before after old new (Refused o) = IsRefusedTurn source before old o

-- a fault of this source is the one that it ends in
abbrev pub IsFaultOfTurn : ℕ → Option Stream → RunFault → Type 0
IsFaultOfTurn source s (Trace i f) = (i ≡ source) × EndsIn s f
IsFaultOfTurn source s NoMemory = ⊤
IsFaultOfTurn source s Lost = ⊤
IsFaultOfTurn source s Settings = ⊥

-- ---- all sources
-- the log's events of each source are those that its trace gave, and there are no others
pub record AreTaking (streams : List (Option Stream)) (log : List Entry) (traces : List TraceLeft) : Type 0 where
  pub as_many : length traces ≡ length streams
  pub none_else : All (λ x. x.source < length streams) log
  pub taken :
      (i : ℕ) (t : TraceLeft) → i < length streams →
      TakesEvents (slice_index_or streams i None) (slice_index_or traces i t).stream (given_by i log)
  pub good : (i : ℕ) (t : TraceLeft) → i < length streams → (slice_index_or traces i t).fault ≡ None

-- the first so many traces have given all
abbrev pub AreOver : List TraceLeft → ℕ → Type 0
AreOver traces n = (i : ℕ) (t : TraceLeft) → i < n → IsOver (slice_index_or traces i t)

-- what was read of sources from a number on that were read whole
abbrev pub reads_from : ℕ → List Entry → List TraceLeft → List SourceRead
reads_from source log [] = []
reads_from source log (t ∷ rest) =
    record { events = given_by source log; end = end.Whole; said = t.said } ∷ reads_from (suc source) log rest

-- the sources are refused so
abbrev pub AreRefused : MemoryModel → List (Option Stream) → Outcome → Type 0
AreRefused model streams (Malformed m) = AreMalformed model streams m
AreRefused model streams (Forbidden f) = AreForbidden model streams f
AreRefused model streams (Allowed events operations waiting) = ⊥

-- all of their events are in the log, or they are refused
abbrev pub AreTaken : MemoryModel → List (Option Stream) → List Entry → List TraceLeft → Option Outcome → Type 0
AreTaken model streams log traces None = AreTaking streams log traces × AreOver traces (length streams)
AreTaken model streams log traces (Some o) = AreRefused model streams o

-- what is judged is true of the sources, and told just where it was asked for
pub record IsJudgedOf (question : Question) (streams : List (Option Stream)) (j : Judged) : Type 0 where
  pub allowed : IfAllowed j.outcome (AreAllowed question.model streams)
  pub forbidden : IfForbidden j.outcome (AreForbidden question.model streams)
  pub malformed : IfMalformed j.outcome (AreMalformed question.model streams)
  pub covered : IfSome j.coverage (AreCovered question.model streams)
  pub asked : IsTrue question.covering → IsAllowed j.outcome → IsSome j.coverage
  pub only : IsSome j.coverage → IsTrue question.covering × IsAllowed j.outcome
  pub lacks : IsTrue question.complete → IsAllowed j.outcome → Lacks streams j.missing
  pub complete : IsSome j.missing → IsTrue question.complete × IsAllowed j.outcome
  pub strength : IfSome j.strength (AreTested question.model streams)
  pub tested : IsToldWhere question.testing j.outcome j.strength
