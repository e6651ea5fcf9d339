use Rattle.std.proofs.Common.{rules}
use Rattle.rv_explain.proofs.Layouts.{tallest-all, tallest-next}
use Rattle.rv_explain.proofs.layout.tallest.Goals as goal

pub each-preserved : goal.each-preserved
each-preserved c = search (tallest-next, rules)

pub returns : goal.returns
returns c = search (tallest-all, rules)
