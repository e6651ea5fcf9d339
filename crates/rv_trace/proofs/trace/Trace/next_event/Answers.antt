-- The row that was being read, by the stage.
use Rattle.std.proofs.Common.{rules}
use Rattle.rv_trace.proofs.Streams.{header-begun}
use Rattle.rv_trace.proofs.trace.Trace.next_event.Goals as goal
use Rattle.rv_trace.proofs.trace.Trace.next_event.Goals.{in-Start+in_default, in-Rows}

pub returns-in-Err-take_row-clause-row : goal.returns-in-Err-take_row-clause-row
returns-in-Err-take_row-clause-row g c = elim c.match-self.branch [
  | in-Start+in_default w ↦ search (header-begun, rules)
  | in-Rows w ↦ search rules
]
