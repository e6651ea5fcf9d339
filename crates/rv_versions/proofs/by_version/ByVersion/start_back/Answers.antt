use Rattle.rv_versions.proofs.Common.{◌-◌, ◌<◌, ◌∙◌, List, get_or, length, ap, subst, arith, AreByVersion, Access}
use Rattle.rv_versions.proofs.Versioned.{low_before}
use Rattle.rv_versions.proofs.by_version.ByVersion.start_back.Goals as goal

pub returns-then-from-version-clause-below : goal.returns-then-from-version-clause-below
returns-then-from-version-clause-below c =
    let p = c.loop-place.place - 1 in
    let b = c.index.result.now in
    let fits : p < length c.args.self.now = omega (arith, c.requires) in
    low_before c.args.self.now (subst AreByVersion c.self.view_is c.self.invariant) c.args.version p b fits
    (c.index.ensures ∙ ap (λ (xs : List Access). get_or xs p b) c.self.view_is)
    (omega (arith, c.if-from-version.true, c.from.ensures))
