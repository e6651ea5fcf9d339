use Rattle.std.proofs.Common.{ℕ, ◌∙◌, subst}
use Rattle.rv_commits.specs.Harts.{IsRow, IsTaken}
use Rattle.rv_commits.proofs.hart.HartRows.access_row.Goals as goal

pub returns-clause-made : goal.returns-clause-made
returns-clause-made c =
    let n = c.lists.new.self.rows in
    let taken = c.in_ok-seq.ensures.taken in record {
      listed = c.lists.new.self;
      lists = c.in_ok-lists.lists;
      still = c.in_ok-lists.ensures.still;
      grown = c.in_ok-lists.ensures.grown;
      numbered = c.in_ok-lists.ensures.numbered;
      dependencies = c.in_ok-lists.ensures.lists;
      deps = c.row_of.ensures.deps ∙ c.in_ok-deps.ensures;
      fields = subst (λ (h : ℕ). IsRow h c.args.made c.args.word c.row_of.result n) c.in_ok-seq.ensures.hart
          (subst (IsRow c.take.new.self.hart c.args.made c.args.word c.row_of.result) taken.number
          c.row_of.ensures.fields);
      taken = subst (IsTaken c.args.insn c.args.made.op c.lists.new.self c.take.new.self.trace) taken.number taken;
    }
