use Rattle.std.proofs.Common.{◌∙◌, List, Contains, subst, sym}
use Rattle.rv_log.specs.declared.record.Performed.{Performed}
use Rattle.rv_values.specs.Memory.{IsMemory}
use Rattle.rv_values.specs.Values.{Holds, IsMade}
use Rattle.rv_values.specs.declared.issues.Issued.{Issued}
use Rattle.rv_values.proofs.Known.{holds-just, holds-none, holds-number, open-effect}
use Rattle.rv_values.proofs.memory.Memory.held.Goals.{In-Some-issued_by}
use Rattle.rv_values.proofs.memory.Memory.held.Goals as goal

pub returns-in_default-issued_by : goal.returns-in_default-issued_by
returns-in_default-issued_by c = λ issued more performed later is grow.
    open-effect issued performed c.args.address c.args.version c.in-Some-store.store
    (c.in-Some-store.ensures performed is.stores)
    (λ i ci. c.in_default-issued_by.ensures i (subst (λ (l : List Issued). Contains l i) (sym is.issues) ci))

-- both records of the version's store came
abbrev made : (c : In-Some-issued_by) (issued : List Issued) (performed : List Performed) →
    IsMemory issued performed c.args.self.now → IsMade issued performed c.args.address c.args.version
made c issued performed is = record {
  effect = c.in-Some-store.store;
  told = c.in-Some-store.ensures performed is.stores;
  instruction = c.in-Some-issued_by.issued;
  retired = subst (λ (l : List Issued). Contains l c.in-Some-issued_by.issued) is.issues c.in-Some-issued_by.ensures.0;
  one = c.in-Some-issued_by.ensures.1;
}

pub returns-in-Some-or : goal.returns-in-Some-or
returns-in-Some-or c = λ issued more performed later is grow.
    let m = made (goal.at.returns-in-Some-or c).In-Some-issued_by issued performed is in (
      subst (Holds _ _ c.args.address c.args.version c.args.initial) (sym c.low_bytes.ensures)
          (holds-number issued more performed later grow c.args.address c.args.version c.args.initial m
          c.in-Some-or.value (sym c.in-Some-or.ensures)),
      λ value holds. holds-just issued more performed later grow c.args.address c.args.version c.args.initial m
          c.in-Some-or.value value (sym c.in-Some-or.ensures) holds ∙ sym c.low_bytes.ensures,
    )

pub returns-in-None-or : goal.returns-in-None-or
returns-in-None-or c = λ issued more performed later is grow value.
    holds-none issued more performed later grow c.args.address c.args.version c.args.initial
    (made (goal.at.returns-in-None-or c).In-Some-issued_by issued performed is) value (sym c.in-None-or.ensures)
