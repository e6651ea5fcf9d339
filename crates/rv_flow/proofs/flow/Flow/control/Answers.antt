use Rattle.rv_flow.proofs.Dependents.{control-same}
use Rattle.rv_flow.proofs.flow.Flow.control.Goals as goal

pub returns : goal.returns
returns c insn steps x of is n = (
  λ has. (control-same steps x n).0 ((of.tested n).0 has),
  λ by. (of.tested n).1 ((control-same steps x n).1 by),
)
