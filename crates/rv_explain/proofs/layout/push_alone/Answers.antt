use Rattle.std.proofs.Common.{rules}
use Rattle.rv_explain.proofs.Layouts.{alone-all, alone-next}
use Rattle.rv_explain.proofs.layout.push_alone.Goals as goal

pub lines-preserved : goal.lines-preserved
lines-preserved c = search (alone-next, rules)

pub returns : goal.returns
returns c = search (alone-all, rules)
