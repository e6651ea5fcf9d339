use Rattle.rv_event.proofs.Common.{rules, ne_eqb}
use Rattle.rv_event.proofs.Indexed.{writer-above}
use Rattle.rv_event.proofs.Scans.{found_at, none_more}
use Rattle.rv_event.proofs.search.find_writer.Goals as goal

pub returns-then-is_write_of : goal.returns-then-is_write_of
returns-then-is_write_of c = search (found_at, writer-above, ne_eqb, rules)

pub loop-entry-preserved : goal.loop-entry-preserved
loop-entry-preserved c = search (none_more, rules)
