use Rattle.std.proofs.Common.{◌⊎◌, inl, inr, ℕ, ◌↔◌}
use Rattle.rv_rows.specs.Bits.{Has}
use Rattle.rv_flow.proofs.Sets.{has-joined}
use Rattle.rv_flow.proofs.flow.Flow.test_sources.Goals as goal

pub returns-clause-tested : goal.returns-clause-tested
returns-clause-tested c n = (
  λ has. elim ((joined n).0 has) [
    | inl before ↦ inl before
    | inr new ↦ inr ((c.held_by_sources-row.ensures n).0 new)
  ],
  λ is. elim is [
    | inl before ↦ (joined n).1 (inl before)
    | inr new ↦ (joined n).1 (inr ((c.held_by_sources-row.ensures n).1 new))
  ],
)
  where
    joined : (m : ℕ) → Has c.join.new.self m ↔ (Has c.args.self.now.tested m ⊎ Has c.held_by_sources-row.result m)
    joined = has-joined c.args.self.now.tested c.held_by_sources-row.result c.join.new.self c.join.ensures
