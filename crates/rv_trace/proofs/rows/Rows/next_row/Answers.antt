use Rattle.rv_trace.specs.Counted.{bytes_left}
use Rattle.rv_trace.proofs.Rests.{row-taken, no-row}
use Rattle.rv_trace.proofs.rows.Rows.next_row.Goals as goal

pub returns-in-Ok-clause-found : goal.returns-in-Ok-clause-found
returns-in-Ok-clause-found g c h =
    let plain = c.self.invariant (rw (← c.self.view_is) at c.requires) in
    let read = c.in-Ok.ensures.reads plain.trim plain.ready in
    rw (← c.self.view_is) (row-taken (bytes_left g.R.Read.remaining) c.self.inside.reader
    c.read_byte_record.new.self c.read_byte_record.new.row plain.config (rw h at read))

pub returns-in-Ok-clause-end : goal.returns-in-Ok-clause-end
returns-in-Ok-clause-end g c h =
    let plain = c.self.invariant (rw (← c.self.view_is) at c.requires) in
    let read = c.in-Ok.ensures.reads plain.trim plain.ready in
    rw (← c.self.view_is) (no-row (bytes_left g.R.Read.remaining) c.self.inside.reader c.read_byte_record.new.self _
    plain.config (rw h at read))
