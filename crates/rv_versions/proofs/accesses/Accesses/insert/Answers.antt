use Rattle.rv_versions.proofs.Common.{sym, ◌∙◌, subst, List, Access, IsInserted, IsRemoved}
use Rattle.rv_versions.proofs.Posted.{failed, went, same_again}
use Rattle.rv_versions.proofs.accesses.Accesses.insert.Goals as goal

pub returns-then-is_err-clause-unchanged : goal.returns-then-is_err-clause-unchanged
returns-then-is_err-clause-unchanged c =
    let same = failed c.insert_reads.result _ (sym c.is_err.ensures.value ∙ c.if-is_err.true)
    c.insert_reads.ensures.unchanged in record {
      stores = same_again c.args.self.now.stores c.insert_posting.new.self c.remove_posting.new.self
          c.args.postings.store c.requires.stores c.in_ok-insert_posting.ensures.inserted
          (subst (λ (xs : List Access). IsRemoved xs c.args.postings.store c.remove_posting.new.self)
          c.insert_reads.ensures.stores c.remove_posting.ensures);
      loads = same.loads;
      pairs = same.pairs;
    }

pub returns-clause-inserted : goal.returns-clause-inserted
returns-clause-inserted c =
    let ok = sym c.is_err.ensures.value ∙ c.if-is_err.false in
    let put = c.in_ok-insert_posting.ensures.inserted in record {
      stores = subst (λ (xs : List Access). IsInserted c.args.self.now.stores c.args.postings.store xs)
          (sym c.insert_reads.ensures.stores) put;
      loads = went c.insert_reads.result _ ok c.insert_reads.ensures.loads;
      pairs = went c.insert_reads.result _ ok c.insert_reads.ensures.pairs;
    }
