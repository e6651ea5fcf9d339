use Rattle.std.proofs.Common.{rules}
use Rattle.rv_trace.proofs.Streams.{end-fault, other-of-fields, other-of-place, row-event, row-last, row-long, row-none}
use Rattle.rv_trace.proofs.Streams.{row-refused}
use Rattle.rv_trace.proofs.trace.take_row.Goals as goal

pub returns-in-Ok-false-clause-whole : goal.returns-in-Ok-false-clause-whole
returns-in-Ok-false-clause-whole g c = search (row-none, rules)

pub returns-in-Ok-false-next_row-clause-whole : goal.returns-in-Ok-false-next_row-clause-whole
returns-in-Ok-false-next_row-clause-whole g c = search (row-last, rules)

pub returns-then-given-ge-MAX_ROWS-clause-fault : goal.returns-then-given-ge-MAX_ROWS-clause-fault
returns-then-given-ge-MAX_ROWS-clause-fault g c = search (row-long, other-of-fields, other-of-place, rules)

pub returns-in-Ok-clause-event : goal.returns-in-Ok-clause-event
returns-in-Ok-clause-event g c = search (row-event, other-of-fields, rules)

pub returns-in-Err-read-clause-fault : goal.returns-in-Err-read-clause-fault
returns-in-Err-read-clause-fault g c = search (row-refused, end-fault, other-of-fields, other-of-place, rules)
