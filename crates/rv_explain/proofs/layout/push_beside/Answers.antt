use Rattle.std.proofs.Common.{rules, sym, append-nil}
use Rattle.rv_explain.proofs.Layouts.{beside-next}
use Rattle.rv_explain.specs.Layout.{lines_beside}
use Rattle.rv_explain.proofs.layout.push_beside.Goals as goal

pub lines-init : goal.lines-init
unfolding lines_beside
lines-init c = sym (append-nil _)

pub lines-preserved : goal.lines-preserved
lines-preserved c = search (beside-next, rules)
