use Rattle.rv_versions.proofs.Common.{Option, sym, subst, IsInserted, Access}
use Rattle.rv_versions.proofs.by_version.ByVersion.insert_posting.Goals as goal

pub returns-in_ok-insert-clause-inserted : goal.returns-in_ok-insert-clause-inserted
returns-in_ok-insert-clause-inserted c =
    subst (λ (o : Option Access). IsInserted c.args.self.now o c.insert.new.self) (sym c.in-Some.is)
    c.in_ok-insert.ensures.inserted
