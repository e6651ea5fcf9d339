use Rattle.rv_versions.proofs.Common.{◌≡◌, ◌+◌, List, ℕ, Some, insert, sym, subst, arith, common_steps}
use Rattle.rv_versions.proofs.Common.{AreByVersion, IsStart, IsInserted, Access}
use Rattle.rv_versions.proofs.Versioned.{ordered_inserted, was_inserted}
use Rattle.rv_versions.proofs.by_version.ByVersion.insert.Goals.{In_ok-insert}
use Rattle.rv_versions.proofs.by_version.ByVersion.insert.Goals as goal

made : (c : In_ok-insert) → c.insert.new.self.items ≡ insert c.args.self.now c.start-place.result c.args.access
made c = grind (arith, common_steps)

pub invariant_of-self-2 : goal.invariant_of-self-2
invariant_of-self-2 c =
    let xs = c.args.self.now in
    let n = c.start-place.result in
    subst AreByVersion (sym (made c))
    (ordered_inserted xs (subst AreByVersion c.self.view_is c.self.invariant) c.args.access n
    c.start-place.ensures.bound
    c.requires (subst (λ (v : ℕ). IsStart xs (v + 1) n) c.from.ensures c.start-place.ensures.parted))

pub returns-clause-inserted : goal.returns-clause-inserted
returns-clause-inserted c =
    subst (λ (xs : List Access). IsInserted c.args.self.now (Some c.args.access) xs) (sym (made c))
    (was_inserted c.args.self.now c.start-place.result c.args.access)
