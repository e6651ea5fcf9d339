use Rattle.rv_versions.proofs.Common.{◌-◌, ◌<◌, ◌∙◌, List, get_or, length, ap, subst, arith, AreByVersion, Access}
use Rattle.rv_versions.proofs.Versioned.{low_before}
use Rattle.rv_versions.proofs.by_version.ByVersion.low_end.Goals as goal

pub returns-then-from-version-clause-below : goal.returns-then-from-version-clause-below
returns-then-from-version-clause-below c = λ k d from upto.
    let xs = c.args.self.now in
    let p = c.len-count.result - c.back.step in
    let b = c.index.result.now in
    let size = c.len-count.ensures in
    let fits : p < length xs =
    omega (arith, c.back.invariant, c.back-test.true, size, c.self.inside.accesses.ok, ap length c.self.view_is) in
    low_before xs (subst AreByVersion c.self.view_is c.self.invariant) c.args.version p b fits
    (c.index.ensures ∙ ap (λ (ys : List Access). get_or ys p b) c.self.view_is)
    (omega (arith, c.if-from-version.true, c.from.ensures)) k d from (omega (arith, upto))
