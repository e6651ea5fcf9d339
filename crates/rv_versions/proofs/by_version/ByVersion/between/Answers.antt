use Rattle.std.proofs.Common.{◌-◌, ◌≤◌, ◌<◌, ◌↔◌, ◌∙◌, List, Contains, take, drop, sym, subst}
use Rattle.rv_versions.specs.declared.accesses.Access.{Access}
use Rattle.rv_versions.proofs.Versioned.{is_between}
use Rattle.rv_versions.proofs.by_version.ByVersion.between.Goals as goal

pub returns : goal.returns
returns c x =
    let start = c.start_back.result in
    let end = c.start-end.result in
    let xs = c.args.self.now in
    subst (λ (ys : List Access). Contains (take (end - start) (drop start ys)) x ↔
    (Contains xs x × (c.args.from ≤ x.version) × (x.version < c.args.to)))
    (sym (c.as_slice-accesses.ensures.value ∙ c.self.view_is))
    (is_between xs c.args.from c.args.to start end c.start_back.ensures.bound c.start-end.ensures.bound
    c.start-end.ensures.parted c.start_back.ensures.below c.start_back.ensures.from x)
