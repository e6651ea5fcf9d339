-- Each look-up tells what a scan would.
use Rattle.rv_edges.proofs.Common.{arith, common_steps}
use Rattle.rv_edges.proofs.history.History.context_of.Goals as goal

pub returns : goal.returns
returns c = grind (arith, common_steps)
