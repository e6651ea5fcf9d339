use Rattle.rv_run.proofs.Common.{◌≡◌, get_or, vec_items, vec_len, rules, arith, below_more, ap, ◌∙◌}
use Rattle.rv_run.proofs.driving.Shared.start_workers.Goals as goal

-- The child that was started takes the next place.
pub loop-worker-preserved : goal.loop-worker-preserved
loop-worker-preserved g c =
    let was = c.loop-worker.invariant in let places = c.push.ensures.by_index in
    let all = vec_items c.push.new.self in (
      search rules,
      (λ k h below. below_more (λ i. ((get_or all i h).promise.0.value ≡ c.args.self.now.carrier.now) ×
          ((get_or all i h).promise.1.value ≡ c.args.self.now.cell.now)) (vec_len c.loop-worker.children)
          (λ i low. let same = places.0 i h low in let kept = was.1 i h (omega (arith, low, was.0)) in
          (ap (λ x. x.promise.0.value) same ∙ kept.0, ap (λ x. x.promise.1.value) same ∙ kept.1))
          (let same = places.1 h (search rules) in (
            ap (λ x. x.promise.0.value) same ∙ c.in_ok-child.ensures.0,
            ap (λ x. x.promise.1.value) same ∙
                c.in_ok-child.ensures.1,
          ))
          k (omega (arith, below, was.0))),
      search rules,
      search rules,
    )
