use Rattle.std.proofs.Common.{subst, sym}
use Rattle.rv_values.proofs.Writers.{just-written, none-shown, none-told, none-written}
use Rattle.rv_values.specs.Index.{IsJust, IsWrittenBy}
use Rattle.rv_values.proofs.index.written_by.Goals as goal

pub returns-in_err-effect : goal.returns-in_err-effect
returns-in_err-effect c = λ performed are.
    subst (IsWrittenBy performed c.args.issued.now) (sym c.from_residual.ensures)
    (none-written performed are.order c.args.issued.now (c.in_err-effect.ensures performed are))

pub returns-in_err-store : goal.returns-in_err-store
returns-in_err-store c = λ performed are.
    subst (IsWrittenBy performed c.args.issued.now) (sym c.from_residual-in_err-store.ensures)
    (none-told performed are.order c.args.issued.now c.in_ok-effect.effect (c.in_ok-effect.ensures performed are)
    (c.in_err-store.ensures performed are))

pub returns-in_err-value : goal.returns-in_err-value
returns-in_err-value c = λ performed are.
    subst (IsWrittenBy performed c.args.issued.now) (sym c.from_residual-in_err-value.ensures)
    (none-shown performed are.order c.args.issued.now c.in_ok-effect.effect (c.in_ok-effect.ensures performed are)
    c.in_ok-store.store (c.in_ok-store.ensures performed are) (sym c.in_err-value.ensures))

pub returns : goal.returns
returns c = λ performed are.
    subst (λ value. IsJust performed c.args.issued.now (record {
      address = c.in_ok-effect.effect.address;
      version = c.in_ok-effect.effect.version;
      value = value;
    })) (sym c.low_bytes.ensures)
    (just-written performed are.order c.args.issued.now c.in_ok-effect.effect (c.in_ok-effect.ensures performed are)
    c.in_ok-store.store (c.in_ok-store.ensures performed are) c.in_ok-value.value (sym c.in_ok-value.ensures))
