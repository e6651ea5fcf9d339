use Rattle.std.proofs.Common.{rules}
use Rattle.rv_explain.proofs.Layouts.{widest-all, widest-next}
use Rattle.rv_explain.proofs.layout.widest.Goals as goal

pub lines-preserved : goal.lines-preserved
lines-preserved c = search (widest-next, rules)

pub returns : goal.returns
returns c = search (widest-all, rules)
