use Rattle.rv_versions.proofs.Common.{sym, ◌∙◌, refl, arith, common_steps}
use Rattle.rv_versions.proofs.Posted.{went, same_itself, same_again}
use Rattle.rv_versions.proofs.accesses.Accesses.insert_reads.Goals as goal

pub returns-then-is_err-clause-unchanged : goal.returns-then-is_err-clause-unchanged
returns-then-is_err-clause-unchanged c = record {
  stores = same_itself _ _ refl;
  loads = same_again c.args.self.now.loads c.insert_posting.new.self c.remove_posting.new.self c.args.postings.load
      c.requires.loads c.in_ok-insert_posting.ensures.inserted c.remove_posting.ensures;
  pairs = grind (arith, common_steps);
}

pub returns-clause-pairs : goal.returns-clause-pairs
returns-clause-pairs c = went c.insert_posting-paired.result _ (sym c.is_err.ensures.value ∙ c.if-is_err.false)
    c.insert_posting-paired.ensures.inserted
