-- Traces that are written from events: the header, and the row that each event is printed as.
use Rattle.std.specs.Prelude.{◌≡◌, ◌≤◌, ◌++◌, ◌∷◌, [], ℕ, List, All, length, None, Ok, codes}
use Rattle.rv_event.specs.Rows.{event_text}
use Rattle.rv_event.specs.declared.event.Event.{Event}
use Rattle.rv_trace.specs.Row.{Fields, event_of}
use Rattle.rv_trace.specs.Source.{bytes_say}
use Rattle.rv_trace.specs.declared.dialect.Dialect.{Dialect}

-- some row of the dialect says the event
pub record IsInRow (d : Dialect) (e : Event) : Type 0 where
  pub fields : Fields
  pub says : event_of d fields ≡ Ok e

-- a row for each event, each ended by a line feed
abbrev pub rows_text : List Event → List ℕ
rows_text [] = []
rows_text (e ∷ es) = event_text e ++ (10 ∷ rows_text es)

abbrev pub trace_text : List Event → List ℕ
trace_text es = codes "hart,seq,op,word,read,wrote,ann,deps" ++ (10 ∷ rows_text es)

-- a trace of events that rows can say says just these
abbrev pub WrittenTracesAreRead : Type 0
WrittenTracesAreRead =
    (d : Dialect) (es : List Event) → All (IsInRow d) es → length es ≤ 65536 →
    bytes_say d (trace_text es) ≡ record { events = es; end = None; said = None }

-- two such events with one text are equal
abbrev pub TextsTellEvents : Type 0
TextsTellEvents =
    (d : Dialect) (a b : Event) → IsInRow d a → IsInRow d b → event_text a ≡ event_text b → a ≡ b
