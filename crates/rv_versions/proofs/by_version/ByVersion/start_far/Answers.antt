use Rattle.std.proofs.Common.{◌≡◌, ◌-◌, ℕ, length, take, length-drop, ltb, ◌∙◌, sym, ap, subst, rules, drop}
use Rattle.std.proofs.Math.Seq.{take-length}
use Rattle.std.proofs.lemmas.List.Sorted.{IsPartitionPoint-from_clause, IsPartitionedBy-ltb}
use Rattle.rv_versions.specs.Accesses.{AreByVersion}
use Rattle.rv_versions.proofs.Versioned.{rising, start_found, ordered_behind, start_behind}
use Rattle.rv_versions.proofs.by_version.ByVersion.start_far.Goals as goal

pub returns-clause-parted : goal.returns-clause-parted
returns-clause-parted c =
    let xs = c.args.self.now in
    let v = c.args.version in
    let low = c.low_end-low.result in
    let all = c.deref.result.now in
    let ys = take (length all - low) (drop low all) in
    let same : ys ≡ drop low xs =
    ap (λ (n : ℕ). take n (drop low all)) (sym (length-drop low all)) ∙ take-length (drop low all)
    ∙ ap (drop low) (c.deref.ensures.value ∙ c.self.view_is) in
    let order : AreByVersion ys = subst AreByVersion (sym same)
    (ordered_behind xs (subst AreByVersion c.self.view_is c.self.invariant) low) in
    start_behind xs v low c.partition_point.result c.low_end-low.ensures.bound c.low_end-low.ensures.below
    (start_found ys (drop low xs) v c.partition_point.result same
    (IsPartitionPoint-from_clause (λ x. ltb x.version v) ys c.partition_point.result
    c.partition_point.ensures.partitioned
    (IsPartitionedBy-ltb (λ x. x.version) ys v (rising ys order)) (λ a r q k. search rules)))
