-- What stands behind the rows that were taken: a row, or the end.
use Rattle.std.specs.Prelude.{ℕ, Option, Result, Ok, Err, ⊤}
use Rattle.rv_event.specs.declared.event.Event.{Event}
use Rattle.rv_trace.specs.declared.fault.TraceFault.{TraceFault}
use Rattle.rv_trace.specs.declared.trace.Taken.{Taken}
use Rattle.rv_trace.specs.declared.trace.Taken.TheVariants.{Row, End}

-- of its event, where it is a row
abbrev pub IfRow : Result Taken TraceFault → (Event → Type 0) → Type 0
IfRow (Ok (Row e)) P = P e
IfRow (Ok (End said)) P = ⊤
IfRow (Err f) P = ⊤

-- of what an end record says, where it is the end
abbrev pub IfEnd : Result Taken TraceFault → (Option ℕ → Type 0) → Type 0
IfEnd (Ok (Row e)) P = ⊤
IfEnd (Ok (End said)) P = P said
IfEnd (Err f) P = ⊤
