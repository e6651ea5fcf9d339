use Rattle.std.proofs.Common.{arith, rules, sym, subst, List, leb, ◌≡◌, true, false}
use Rattle.std.specs.List.Sorted.{IsNonDecreasingBy, IsPartitionPoint}
use Rattle.std.proofs.lemmas.List.Sorted.{IsPartitionPoint-from_clause, IsPartitionedBy-leb}
use Rattle.rv_log.specs.declared.record.Performed.{Performed}
use Rattle.rv_memory.proofs.Orders.{kept-rising, version-point}
use Rattle.rv_memory.proofs.stores.Stores.version_at.Goals as goal

pub overflow_cast-result : goal.overflow_cast-result
overflow_cast-result c =
    let few = c.of_word.ensures.few in
    let bound = c.partition_point.ensures.bound in
    omega (few, bound, arith)

pub returns : goal.returns
returns c = λ log are.
    let ys : List Performed = c.of_word.result.now in
    version-point are c.args.address c.args.time c.partition_point.result
    (subst (λ (w : List Performed). IsPartitionPoint (λ p. leb p.time c.args.time ≡ true)
    (λ p. leb p.time c.args.time ≡ false) w c.partition_point.result) c.of_word.ensures.stores
    (IsPartitionPoint-from_clause (λ p. leb p.time c.args.time) ys c.partition_point.result
    c.partition_point.ensures.partitioned
    (IsPartitionedBy-leb (λ p. p.time) ys c.args.time
    (subst (IsNonDecreasingBy (λ (p : Performed). p.time)) (sym c.of_word.ensures.stores)
    (kept-rising are c.args.address))) (λ a r q k. search rules)))
