use Rattle.std.proofs.Common.{rules}
use Rattle.rv_trace.proofs.Feeding.{feed-row-long, feed-row-none, feed-row-refused, feed-row-taken}
use Rattle.rv_trace.proofs.feed.take_row.Goals as goal

pub returns-in-Ok-false-clause-over : goal.returns-in-Ok-false-clause-over
returns-in-Ok-false-clause-over g c = search (feed-row-none, rules)

pub returns-then-given-ge-MOST_ROWS-clause-fault : goal.returns-then-given-ge-MOST_ROWS-clause-fault
returns-then-given-ge-MOST_ROWS-clause-fault g c = search (feed-row-long, rules)

pub returns-in-Ok-clause-row : goal.returns-in-Ok-clause-row
returns-in-Ok-clause-row g c = search (feed-row-taken, rules)

pub returns-in-Err-row_of-clause-fault : goal.returns-in-Err-row_of-clause-fault
returns-in-Err-row_of-clause-fault g c = search (feed-row-refused, rules)
