-- What a feeder has read of a source, where its reader tells its bytes.
use Rattle.std.specs.Prelude.{◌≡◌, ◌⊎◌, ◌<◌, ◌≤◌, ◌+◌, ◌*◌, ℕ, List, All, drop, length}
use Rattle.std.specs.Prelude.{Bool, true, false, Option, Some, None, ⊤}
use Rattle.rv_chunk.specs.Chunks.{IsPackable}
use Rattle.rv_chunk.specs.Packing.{Content}
use Rattle.rv_event.specs.declared.event.Event.{Event}
use Rattle.rv_book.specs.Chunked.{IsPrefix}
use Rattle.rv_trace.specs.Chunks.{TakesEvents}
use Rattle.rv_trace.specs.Faults.{is_of_text}
use Rattle.rv_trace.specs.Source.{Stream}
use Rattle.rv_trace.specs.Trace.{TraceLeft}
use Rattle.rv_trace.specs.declared.fault.FaultKind.TheVariants.{Read}
use Rattle.rv_run.specs.declared.feeding.Fed.{Fed}
use Rattle.rv_run.specs.declared.feeding.FeedEnd.{FeedEnd}
use Rattle.rv_run.specs.declared.feeding.FeedEnd.TheVariants.{Whole, Stopped, Fault, NoMemory}

-- a whole end is the source's, after all its events, and its end record says so much; a fault of
-- the text is the one that the source ends in
abbrev pub IsEndOf : Stream → List Event → Option ℕ → FeedEnd → Type 0
IsEndOf s events said Whole = (s.events ≡ events) × (s.end ≡ None) × (s.said ≡ said)
IsEndOf s events said Stopped = ⊤
IsEndOf s events said (Fault f) = is_of_text f.kind ≡ true → s.end ≡ Some f
IsEndOf s events said NoMemory = ⊤

-- the events are the first of the source's, and so is the end
abbrev pub IsReadOf : Option Stream → List Event → Option ℕ → FeedEnd → Type 0
IsReadOf None events said end = ⊤
IsReadOf (Some s) events said end = IsPrefix events s.events × IsEndOf s events said end

-- what a feeder gives is so
abbrev pub IsFedOf : Option Stream → Fed → Type 0
IsFedOf start fed = IsReadOf start fed.events fed.said fed.end

-- no fault was met, and these events were taken, which can be packed
pub record IsFeeding (start : Option Stream) (events : List Event) (trace : TraceLeft) : Type 0 where
  pub good : trace.fault ≡ None
  pub taken : TakesEvents start trace.stream events
  pub packable : All IsPackable events
  pub count : trace.given ≡ length events
  pub few : trace.given ≤ 65536

-- the feeder goes on, or it has ended
abbrev pub GoesOn : Option Stream → List Event → TraceLeft → Option FeedEnd → Type 0
GoesOn start events trace None = IsFeeding start events trace
GoesOn start events trace (Some end) = IsReadOf start events trace.said end

-- the chunk has the events from the last multiple of eight on
abbrev pub IsLastOf : List Event → ℕ → Content → Type 0
IsLastOf events source chunk =
    (chunk.source ≡ source) × (chunk.events ≡ drop (8 * chunk.number) events)
    × (8 * chunk.number < length events) × (length events ≤ 8 * chunk.number + 8)

-- The feeder's end, where its source ended so: the same, but for a whole source whose last chunk
-- was not put, and for a read that failed as its reader was told to stop.
abbrev pub IsSettledEnd : FeedEnd → Bool → FeedEnd → Type 0
IsSettledEnd Whole true new = new ≡ Whole
IsSettledEnd Whole false new = new ≡ Stopped
IsSettledEnd Stopped is_put new = new ≡ Stopped
IsSettledEnd (Fault f) is_put new = (new ≡ Fault f) ⊎ ((f.kind ≡ Read) × (new ≡ Stopped))
IsSettledEnd NoMemory is_put new = new ≡ NoMemory
