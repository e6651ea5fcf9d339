use Rattle.rv_versions.proofs.Common.{Option, sym, subst, IsRemoved, Access}
use Rattle.rv_versions.proofs.by_version.ByVersion.remove_posting.Goals as goal

pub returns-in-Some : goal.returns-in-Some
returns-in-Some c =
    subst (λ (o : Option Access). IsRemoved c.args.self.now o c.remove.new.self) (sym c.in-Some.is) c.remove.ensures
