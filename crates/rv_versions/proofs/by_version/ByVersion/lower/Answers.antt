use Rattle.rv_versions.proofs.Common.{◌-◌, ◌∙◌, List, ℕ, get_or, ap, subst, arith, common_steps, AreByVersion}
use Rattle.rv_versions.proofs.Common.{IsStart, Access}
use Rattle.rv_versions.proofs.Versioned.{lower_some}
use Rattle.rv_versions.proofs.by_version.ByVersion.lower.Goals as goal

pub returns-then-end-eq0-clause-found : goal.returns-then-end-eq0-clause-found
returns-then-end-eq0-clause-found c = grind (arith, common_steps)

pub returns-clause-found : goal.returns-clause-found
returns-clause-found c =
    let n = c.start-end.result in
    let a = c.index.result.now in
    lower_some c.args.self.now c.args.version n
    (subst (λ (v : ℕ). IsStart c.args.self.now v n) c.from.ensures c.start-end.ensures.parted)
    (subst AreByVersion c.self.view_is c.self.invariant) (n - 1) a (omega arith) c.start-end.ensures.bound
    (c.index.ensures ∙ ap (λ (xs : List Access). get_or xs (n - 1) a) c.self.view_is)

pub returns-clause-below : goal.returns-clause-below
returns-clause-below c = grind (arith, common_steps)
