use Rattle.std.proofs.Common.{◌∙◌, ◌++◌, ◌∷◌, [], refl, subst, sym}
use Rattle.rv_values.specs.Memory.{IsIssueRefused, IsMemory}
use Rattle.rv_values.specs.declared.issues.Issued.{Issued}
use Rattle.rv_logrows.proofs.Kept.{none-effect, some-effect, stored, unstored}
use Rattle.rv_logrows.specs.Log.{issue_of}
use Rattle.rv_logrows.proofs.log.LogRows.store.Goals as goal

pub returns-in-Ok-clause-stored : goal.returns-in-Ok-clause-stored
returns-in-Ok-clause-stored c = λ issued performed is.
    stored issued performed c.issue.new.self c.args.instruction.now (sym c.does_store.ensures ∙ c.if-does_store.true)
    (subst (λ (i : Issued). IsMemory (issued ++ i ∷ []) performed c.issue.new.self) c.issue_of.ensures
    (c.in-Ok.ensures.taken issued performed is))

pub returns-in-Err-Differs-clause-refused : goal.returns-in-Err-Differs-clause-refused
returns-in-Err-Differs-clause-refused c = λ issued performed is.
    subst (IsIssueRefused issued performed (issue_of c.args.instruction.now)) c.in-Err-Differs.field-0-is
    (subst (λ (i : Issued). IsIssueRefused issued performed i c.in-Err-Differs.field-0) c.issue_of.ensures
    (c.in-Err-Differs.ensures.refused issued performed is))

pub returns-in-Err-RetiredTwice-clause-refused : goal.returns-in-Err-RetiredTwice-clause-refused
returns-in-Err-RetiredTwice-clause-refused c = λ issued performed is.
    subst (IsIssueRefused issued performed (issue_of c.args.instruction.now)) c.in-Err-RetiredTwice.field-0-is
    (subst (λ (i : Issued). IsIssueRefused issued performed i c.in-Err-RetiredTwice.field-0) c.issue_of.ensures
    (c.in-Err-RetiredTwice.ensures.refused issued performed is))

pub returns-then-is_none-clause-stored : goal.returns-then-is_none-clause-stored
returns-then-is_none-clause-stored c = λ issued performed is.
    unstored issued performed c.args.self.now.memory c.args.instruction.now
    (sym c.does_store.ensures ∙ c.if-does_store.false)
    (none-effect performed c.args.instruction.now.hart c.args.instruction.now.order c.effect_of-effect.result
    (c.effect_of-effect.ensures performed is.stores) c.if-is_none.ensures) is

pub returns-in_default-clause-refused : goal.returns-in_default-clause-refused
returns-in_default-clause-refused c = λ issued performed is.
    let of = some-effect performed c.args.instruction.now.hart c.args.instruction.now.order c.effect_of-effect.result
    (c.effect_of-effect.ensures performed is.stores) c.if-is_none.ensures in
    (of.0, of.1, of.2, sym c.does_store.ensures ∙ c.if-does_store.false)

pub returns-in-ScFailed-clause-refused : goal.returns-in-ScFailed-clause-refused
returns-in-ScFailed-clause-refused c = λ issued performed is.
    let of = some-effect performed c.args.instruction.now.hart c.args.instruction.now.order c.effect_of-effect.result
    (c.effect_of-effect.ensures performed is.stores) c.if-is_none.ensures in (
      of.0,
      of.1,
      of.2,
      sym c.does_store.ensures ∙ c.if-does_store.false,
      (c.in-Some.made, sym c.made_by.ensures ∙ c.in-Some.is, c.in-ScFailed.is),
    )

pub returns-in_default-op : goal.returns-in_default-op
returns-in_default-op c = record {
  same = (refl, refl, refl, refl);
  stored = λ issued performed is. tt;
  refused = λ issued performed is.
      let of = some-effect performed c.args.instruction.now.hart c.args.instruction.now.order
      c.effect_of-effect.result (c.effect_of-effect.ensures performed is.stores) c.if-is_none.ensures in
      (of.0, of.1, of.2, sym c.does_store.ensures ∙ c.if-does_store.false);
}
