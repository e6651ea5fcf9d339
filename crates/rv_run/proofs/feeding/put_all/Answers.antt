use Rattle.std.proofs.Common.{rules}
use Rattle.rv_run.proofs.ReadSoFar.{feeding-stops}
use Rattle.rv_run.proofs.feeding.put_all.Goals as goal

-- What was read stays so where the gate was stopped.
pub returns-then-not-is_put : goal.returns-then-not-is_put
returns-then-not-is_put g c = search (feeding-stops, rules)

pub returns-then-is_over : goal.returns-then-is_over
returns-then-is_over g c = search (feeding-stops, rules)
