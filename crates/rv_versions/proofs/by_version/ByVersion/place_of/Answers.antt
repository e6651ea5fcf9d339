use Rattle.rv_versions.proofs.Common.{◌-◌, ◌+◌, ◌≢◌, ◌≡◌, ◌∙◌, List, ℕ, get_or, ap, subst, arith, AllWithin}
use Rattle.rv_versions.proofs.Common.{rules, AreByVersion, IsStart, Access}
use Rattle.rv_versions.proofs.Versioned.{absent_of}
use Rattle.rv_versions.proofs.by_version.ByVersion.place_of.Goals as goal

pub returns-then-other-access : goal.returns-then-other-access
returns-then-other-access c =
    let xs = c.args.self.now in
    let a = c.args.access in
    let p = c.loop-place.place - 1 in
    let end = c.start-end.result in
    let b = c.index.result.now in
    let some = c.loop-place-test.true in
    let upto = c.loop-place.auto.place in
    let next : c.loop-place.place ≡ p + 1 = omega arith in
    let none : AllWithin (λ x. x ≢ a) xs c.loop-place.place end = search rules in
    absent_of xs (subst AreByVersion c.self.view_is c.self.invariant) a p end b (omega arith) c.start-end.ensures.bound
    (subst (λ (v : ℕ). IsStart xs (v + 1) end) c.from.ensures c.start-end.ensures.parted)
    (subst (λ (n : ℕ). AllWithin (λ x. x ≢ a) xs n end) next none)
    (c.index.ensures ∙ ap (λ (ys : List Access). get_or ys p b) c.self.view_is) c.if-other-access.true
