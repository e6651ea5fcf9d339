use Rattle.rv_versions.proofs.Common.{◌∙◌, List, Some, remove, ap, sym, subst, AreByVersion, IsRemoved, Access}
use Rattle.rv_versions.proofs.Versioned.{was_removed}
use Rattle.rv_versions.proofs.by_version.ByVersion.remove.Goals as goal

pub returns-in-Some : goal.returns-in-Some
returns-in-Some c =
    subst (λ (xs : List Access). IsRemoved c.args.self.now (Some c.args.access) xs)
    (sym (c.remove.ensures.items ∙ ap (λ (xs : List Access). remove xs c.in-Some.place) c.self.view_is))
    (was_removed c.args.self.now (subst AreByVersion c.self.view_is c.self.invariant) c.args.access c.in-Some.place
    c.in-Some.ensures.0 c.in-Some.ensures.1)
