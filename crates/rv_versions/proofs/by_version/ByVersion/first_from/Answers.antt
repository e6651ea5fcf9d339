use Rattle.rv_versions.proofs.Common.{common_steps, ◌≡◌, ◌<◌, ◌∙◌, List, Some, length, get_or, ap, subst, arith}
use Rattle.rv_versions.proofs.Common.{rules, AllWithin, AreByVersion, Access}
use Rattle.rv_versions.proofs.Versioned.{first_some}
use Rattle.rv_versions.proofs.by_version.ByVersion.first_from.Goals as goal

pub returns-then-ne : goal.returns-then-ne
returns-then-ne c =
    let p = c.loop-place.place in
    let a = c.index-access.result.now in
    let fits : p < length c.args.self.now = omega (arith, c.self.inside.accesses.ok.0, ap length c.self.view_is) in
    first_some c.args.self.now c.args.version c.start-place.result c.start-place.ensures.parted
    c.args.aside (subst AreByVersion c.self.view_is c.self.invariant) p a c.loop-place.auto.place fits
    (c.index-access.ensures ∙ ap (λ (xs : List Access). get_or xs p a) c.self.view_is)
    (subst (λ (xs : List Access). AllWithin (λ x. c.args.aside ≡ Some x.hart) xs c.start-place.result p) c.self.view_is
    c.loop-place.invariant) (search rules)

pub returns : goal.returns
returns c = grind (arith, common_steps)
