use Rattle.std.proofs.Common.{rules}
use Rattle.rv_run.proofs.EndsLacking.{counted-more, first-end}
use Rattle.rv_run.proofs.missing.ends_lacking.Goals as goal

pub returns-then-is_some : goal.returns-then-is_some
returns-then-is_some c = search (first-end, rules)

pub loop-i-preserved : goal.loop-i-preserved
loop-i-preserved c = search (counted-more, rules)
