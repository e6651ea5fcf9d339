-- The hart's entries are all of one source.
use Rattle.std.proofs.Common.{rules}
use Rattle.rv_book.proofs.Tallies.{none_fault, same_fault, other_fault}
use Rattle.rv_book.proofs.tally.Tally.source_fault.Goals as goal

pub returns-in_err-source : goal.returns-in_err-source
returns-in_err-source c log known = search (none_fault, rules)

pub returns-then-source-entry : goal.returns-then-source-entry
returns-then-source-entry c log known = search (same_fault, rules)

pub returns-else-source-entry : goal.returns-else-source-entry
returns-else-source-entry c log known = search (other_fault, rules)
