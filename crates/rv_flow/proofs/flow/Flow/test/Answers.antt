use Rattle.std.proofs.Common.{◌∙◌, inl, inr, sym, IsTrue}
use Rattle.rv_insn.specs.Roles.{is_branch}
use Rattle.rv_flow.proofs.flow.Flow.test.Goals as goal

pub returns-then-is_branch-clause-tested : goal.returns-then-is_branch-clause-tested
returns-then-is_branch-clause-tested c n = (
  λ has. elim ((c.test_sources.ensures.tested n).0 has) [
    | inl before ↦ inl before
    | inr held ↦ inr (branch, held.0, held.1, held.2)
  ],
  λ is. elim is [
    | inl before ↦ (c.test_sources.ensures.tested n).1 (inl before)
    | inr new ↦ (c.test_sources.ensures.tested n).1 (inr (new.1, new.2, new.3))
  ],
)
  where
    branch : IsTrue (is_branch c.args.insn.operation)
    branch = sym c.is_branch.ensures ∙ c.if-is_branch.true
