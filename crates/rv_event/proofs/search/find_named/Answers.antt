use Rattle.std.proofs.Common.{rules}
use Rattle.rv_event.proofs.Scans.{found_at, none_more}
use Rattle.rv_event.proofs.search.find_named.Goals as goal

pub returns-then-eq : goal.returns-then-eq
returns-then-eq c = search (found_at, rules)

pub loop-entry-preserved : goal.loop-entry-preserved
loop-entry-preserved c = search (none_more, rules)
