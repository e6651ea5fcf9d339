use Rattle.std.proofs.Common.{subst, sym}
use Rattle.rv_memory.proofs.Performed.{performed-of}
use Rattle.rv_memory.specs.Stores.{IsPerformedBy}
use Rattle.rv_memory.proofs.stores.Stores.performed_by.Goals as goal

pub returns-in_err-effect : goal.returns-in_err-effect
returns-in_err-effect c = λ log are.
    subst (IsPerformedBy log c.args.hart c.args.order) (sym c.from_residual.ensures)
    (c.in_err-effect.ensures log are)

pub returns : goal.returns
returns c = λ log are.
    performed-of log c.args.hart c.args.order c.in_ok-effect.effect (c.in_ok-effect.ensures log are) c.store.result
    (c.store.ensures log are)
