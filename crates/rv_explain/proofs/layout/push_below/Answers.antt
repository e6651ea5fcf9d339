use Rattle.std.proofs.Common.{rules}
use Rattle.rv_explain.proofs.Layouts.{below-all, below-next}
use Rattle.rv_explain.proofs.layout.push_below.Goals as goal

pub each-preserved : goal.each-preserved
each-preserved c = search (below-next, rules)

pub returns : goal.returns
returns c = search (below-all, rules)
