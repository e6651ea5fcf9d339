use Rattle.rv_explain.proofs.Shows.{AreColumnsBelow}
use Rattle.rv_explain.proofs.shown.columns_of.Given as goal

abbrev pub invariant-harts : goal.invariant-harts
invariant-harts l = AreColumnsBelow l.shown l.hart l.columns.items
