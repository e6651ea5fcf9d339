-- What a source still gives in chunks.
use Rattle.std.specs.Prelude.{◌≡◌, ◌⊎◌, ◌++◌, ◌+◌, ◌*◌, ◌<◌, ◌≤◌, List, length, ℕ, Bool, true, false, Option, Some}
use Rattle.std.specs.Prelude.{None, option_map, ⊤}
use Rattle.rv_event.specs.declared.event.Event.{Event}
use Rattle.rv_trace.specs.declared.dialect.Dialect.{Dialect}
use Rattle.rv_trace.specs.declared.fault.FaultKind.TheVariants as fault
use Rattle.rv_trace.specs.declared.fault.TraceFault.{TraceFault}
use Rattle.rv_trace.specs.Calls.{IsAtEnd}
use Rattle.rv_trace.specs.Faults.{IsOutside, is_of_text}
use Rattle.rv_trace.specs.Source.{Stream, bytes_say}
use Rattle.rv_trace.specs.Trace.{TraceLeft}

-- Chunks: their source's number; the number of the next chunk; whether the header is still to be
-- read; how many events were read, which are those of the chunks given until a fault comes; what is
-- still given, where the reader tells its bytes; whether the end has come, and what the end record
-- said, if there was one; the fault that is repeated; and whether the last read failed since the
-- reader underneath refused.
pub record ChunksLeft : Type 0 where
  pub source : ℕ
  pub number : ℕ
  pub unread : Bool
  pub given : ℕ
  pub stream : Option Stream
  pub ended : Bool
  pub said : Option ℕ
  pub fault : Option TraceFault
  pub refused : Bool

abbrev pub chunks_left : ℕ → ℕ → Option TraceFault → TraceLeft → ChunksLeft
chunks_left source number fault trace = record {
  source = source;
  number = number;
  unread = trace.unread;
  given = trace.given;
  stream = trace.stream;
  ended = trace.ended;
  said = trace.said;
  fault = fault;
  refused = trace.refused;
}

-- of which nothing was read yet, by the bytes of its reader where they are known
abbrev pub fresh_chunks : Dialect → ℕ → Option (List ℕ) → ChunksLeft
fresh_chunks d source known = record {
  source = source;
  number = 0;
  unread = true;
  given = 0;
  stream = option_map (bytes_say d) known;
  ended = false;
  said = None;
  fault = None;
  refused = false;
}

-- between two chunks: each chunk given so far has eight events, but for one at the end
pub record IsBetween (number : ℕ) (trace : TraceLeft) : Type 0 where
  pub good : trace.fault ≡ None
  pub unrefused : trace.refused ≡ false
  pub place : (trace.given ≡ 8 * number) ⊎ (trace.ended ≡ true)
  pub few : number ≤ trace.given
  pub rows : trace.given ≤ 65536

-- a chunk has eight events, or the end has come
abbrev pub IsFullOrLast : List Event → ChunksLeft → Type 0
IsFullOrLast events left = (length events ≡ 8) ⊎ IsAtEnd left.ended left.said left.stream

-- these events of a known stream were taken
abbrev pub TakesEvents : Option Stream → Option Stream → List Event → Type 0
TakesEvents None new es = ⊤
TakesEvents (Some s) None es = ⊥
TakesEvents (Some s) (Some t) es = s ≡ record { events = es ++ t.events; end = t.end; said = t.said }

-- a fault is the one that a known stream ends in before its eighth event, or one of reading or
-- memory
abbrev pub IsFaultWithin : Option Stream → TraceFault → Type 0
IsFaultWithin None f = (is_of_text f.kind ≡ true) ⊎ IsOutside f.kind
IsFaultWithin (Some s) f =
    ((is_of_text f.kind ≡ true) × (length s.events < 8) × (s.end ≡ Some f)) ⊎ IsOutside f.kind

-- The row that was being read: the one after the events that were read, of which the chunk would
-- have taken fewer than eight; or the last of them, which no memory could be had to keep; or, where
-- the header was still to be read, the header.
abbrev pub IsAmong : Bool → ℕ → ℕ → TraceFault → Type 0
IsAmong unread given read f =
    (given ≤ read)
    × (((f.row ≡ read + 1) × (read < given + 8))
    ⊎ ((f.row ≡ read) × (given < read) × (read ≤ given + 8) × (f.kind ≡ fault.NoMemory))
    ⊎ ((f.row ≡ 0) × (unread ≡ true) × (read ≡ 0)))

-- the same of chunks, and of their trace
abbrev pub IsReadingRow : ChunksLeft → ℕ → TraceFault → Type 0
IsReadingRow old read f = IsAmong old.unread old.given read f

abbrev pub IsTakingRow : TraceLeft → ℕ → TraceFault → Type 0
IsTakingRow old read f = IsAmong old.unread old.given read f
