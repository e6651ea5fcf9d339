-- What a trace has left to give.
use Rattle.std.specs.Prelude.{◌≡◌, ◌⊎◌, ◌∷◌, ◌+◌, ◌≤◌, ◌≢◌, ◌&&◌, List, ℕ, Bool, true, false, Option, Some, None}
use Rattle.std.specs.Prelude.{option_map, ⊤}
use Rattle.rv_event.specs.declared.event.Event.{Event}
use Rattle.rv_trace.specs.declared.dialect.Dialect.{Dialect}
use Rattle.rv_trace.specs.declared.fault.FaultKind.TheVariants as fault
use Rattle.rv_trace.specs.declared.fault.TraceFault.{TraceFault}
use Rattle.rv_trace.specs.declared.trace.Stage.{Stage}
use Rattle.rv_trace.specs.declared.trace.Stage.TheVariants as stage
use Rattle.rv_trace.specs.Faults.{IsOutside, NeverCsv, is_of_text}
use Rattle.rv_trace.specs.Row.{Fields}
use Rattle.rv_trace.specs.Rows.{RowsLeft}
use Rattle.rv_trace.specs.Source.{Stream, bytes_say, fails_at, records_say, rows_say, whole}

-- A trace: its source's number; whether its header is still to be read; how many events it has
-- given; what it still gives, where the reader tells its bytes; whether it has come to the end, and
-- what the end record said, if there was one; the fault that it repeats; and whether its last read
-- failed since the reader underneath refused.
pub record TraceLeft : Type 0 where
  pub source : ℕ
  pub unread : Bool
  pub given : ℕ
  pub stream : Option Stream
  pub ended : Bool
  pub said : Option ℕ
  pub fault : Option TraceFault
  pub refused : Bool

-- of which nothing was read yet, by the bytes of its reader where they are known
abbrev pub fresh_trace : Dialect → ℕ → Option (List ℕ) → TraceLeft
fresh_trace d source known = record {
  source = source;
  unread = true;
  given = 0;
  stream = option_map (bytes_say d) known;
  ended = false;
  said = None;
  fault = None;
  refused = false;
}

-- the reader underneath refused a read, and the CSV reader failed
abbrev pub refused_in : RowsLeft → Bool
refused_in rows = rows.failed && rows.refused

-- what the records left say at a stage
abbrev pub stream_left : Dialect → Stage → ℕ → Option (List Fields) → Option Stream
stream_left d stage.Start given left = option_map (records_say d) left
stream_left d stage.Rows given left = option_map (rows_say d (given + 1)) left
stream_left d (stage.Ended said) given left = Some (whole said)
stream_left d (stage.Failed f) given left = None

abbrev pub is_unread : Stage → Bool
is_unread stage.Start = true
is_unread stage.Rows = false
is_unread (stage.Ended said) = false
is_unread (stage.Failed f) = false

abbrev pub has_ended : Stage → Bool
has_ended stage.Start = false
has_ended stage.Rows = false
has_ended (stage.Ended said) = true
has_ended (stage.Failed f) = false

-- what the end record said, once it was read
abbrev pub said_at : Stage → Option ℕ
said_at stage.Start = None
said_at stage.Rows = None
said_at (stage.Ended said) = said
said_at (stage.Failed f) = None

abbrev pub fault_kept : Stage → Option TraceFault
fault_kept stage.Start = None
fault_kept stage.Rows = None
fault_kept (stage.Ended said) = None
fault_kept (stage.Failed f) = Some f

abbrev pub trace_left : Dialect → ℕ → ℕ → Stage → RowsLeft → TraceLeft
trace_left d source given s rows = record {
  source = source;
  unread = is_unread s;
  given = given;
  stream = stream_left d s given rows.left;
  ended = has_ended s;
  said = said_at s;
  fault = fault_kept s;
  refused = refused_in rows;
}

-- while records are read, the reader has not stopped; no event was given before the header
abbrev pub InStage : Stage → ℕ → RowsLeft → Type 0
InStage stage.Start given rows = (rows.stopped ≡ false) × (given ≡ 0) × (rows.failed ≡ false)
InStage stage.Rows given rows = (rows.stopped ≡ false) × (given ≤ 65536) × (rows.failed ≡ false)
InStage (stage.Ended said) given rows = rows.failed ≡ false
InStage (stage.Failed f) given rows = NeverCsv f

-- a known stream goes on as another
abbrev pub GoesOn : Option Stream → Option Stream → Type 0
GoesOn None new = ⊤
GoesOn (Some s) None = ⊥
GoesOn (Some s) (Some t) = s ≡ t

-- the next event of a known stream was taken
abbrev pub TakesEvent : Option Stream → Option Stream → Event → Type 0
TakesEvent None new e = ⊤
TakesEvent (Some s) None e = ⊥
TakesEvent (Some s) (Some t) e = s ≡ record { events = e ∷ t.events; end = t.end; said = t.said }

-- a known stream is at its whole end, and its end record says so much, if it has one
abbrev pub IsWhole : Option Stream → Option ℕ → Type 0
IsWhole None said = ⊤
IsWhole (Some s) said = s ≡ whole said

-- a fault is the one that a known stream ends in at once, or one of reading or memory
abbrev pub IsFaultOf : Option Stream → TraceFault → Type 0
IsFaultOf None f = (is_of_text f.kind ≡ true) ⊎ IsOutside f.kind
IsFaultOf (Some s) f = ((is_of_text f.kind ≡ true) × (s ≡ fails_at f.kind f.row)) ⊎ IsOutside f.kind

-- a known stream is not that of a source whose header is missing
abbrev pub HasHeader : Option Stream → Type 0
HasHeader None = ⊤
HasHeader (Some s) = s ≢ fails_at fault.Header 0

-- the row that was being read: the one after those given; or, where the header was still to be
-- read, the header, and the first row only behind one
abbrev pub IsAtRow : Bool → ℕ → Option Stream → TraceFault → Type 0
IsAtRow false given left f = f.row ≡ given + 1
IsAtRow true given left f = (given ≡ 0) × ((f.row ≡ 0) ⊎ ((f.row ≡ 1) × HasHeader left))
