use Rattle.std.proofs.Common.{◌∙◌, sym}
use Rattle.rv_values.proofs.Single.{none-issued}
use Rattle.rv_values.proofs.issues.Issues.push.Goals as goal

pub add-requires : goal.add-requires
add-requires c = record {
  new = none-issued c.args.self.now c.args.store.hart c.args.store.order c.issued_by.result c.issued_by.ensures
      (sym c.is_some.ensures ∙ c.if-is_some.false);
}

pub returns-in-Ok-clause-new : goal.returns-in-Ok-clause-new
returns-in-Ok-clause-new c = none-issued c.args.self.now c.args.store.hart c.args.store.order c.issued_by.result
    c.issued_by.ensures (sym c.is_some.ensures ∙ c.if-is_some.false)

pub returns-in-Err-clause-refused : goal.returns-in-Err-clause-refused
returns-in-Err-clause-refused c = none-issued c.args.self.now c.args.store.hart c.args.store.order c.issued_by.result
    c.issued_by.ensures (sym c.is_some.ensures ∙ c.if-is_some.false)
