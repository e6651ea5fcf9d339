-- A trace with the event that was read of it and not taken yet.
use Rattle.std.specs.Prelude.{◌≡◌, ◌∷◌, Option, Some, None, option_map, ⊤}
use Rattle.rv_event.specs.declared.event.Event.{Event}
use Rattle.rv_trace.specs.Calls.{IsAtEnd}
use Rattle.rv_trace.specs.Source.{Stream}
use Rattle.rv_trace.specs.Trace.{IsWhole, TakesEvent, TraceLeft}
use Rattle.rv_run.specs.declared.ahead.Next.{Next}
use Rattle.rv_run.specs.declared.ahead.Next.TheVariants as next

-- a stream before which this event stands, if there is one
abbrev pub with_next : Event → Stream → Stream
with_next e s = record { events = e ∷ s.events; end = s.end; said = s.said }

abbrev pub with_held : Option Event → Option Stream → Option Stream
with_held None s = s
with_held (Some e) s = option_map (with_next e) s

-- what the trace gives with the event that is held
abbrev pub ahead_left : TraceLeft → Option Event → TraceLeft
ahead_left t held = record t { stream = with_held held t.stream }

-- a known stream is as it was
abbrev pub IsKept : Option Stream → Option Stream → Type 0
IsKept None new = ⊤
IsKept (Some s) new = new ≡ Some s

-- what stands next is so, and no fault was met
abbrev pub IsNext : TraceLeft → TraceLeft → Next → Type 0
IsNext old new (next.Event e) = TakesEvent old.stream new.stream e × (new.fault ≡ None)
IsNext old new next.Waits = IsKept old.stream new.stream × (new.fault ≡ None)
IsNext old new next.End =
    IsWhole old.stream new.said × IsAtEnd new.ended new.said new.stream × (new.fault ≡ None)
