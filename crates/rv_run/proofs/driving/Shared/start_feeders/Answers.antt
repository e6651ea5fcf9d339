use Rattle.std.specs.Prelude.{◌≡◌, ◌+◌, get_or, vec_items, vec_len}
use Rattle.std.proofs.Common.{rules, arith, below_more, ap, ◌∙◌}
use Rattle.rv_run.proofs.driving.Shared.start_feeders.Goals as goal

-- The reader that comes next stood first among the rest, and its child takes the next place.
pub loop-reader-preserved : goal.loop-reader-preserved
loop-reader-preserved g c =
    let was = c.loop-reader.invariant in let step = c.in-Some.ensures.steps in
    let done = vec_len c.loop-reader.children in
    let places = c.push.ensures.by_index in let all = vec_items c.push.new.self in
    let readers = vec_items c.args.readers in
    let grown : vec_len c.push.new.self ≡ done + 1 = search rules in (
      search rules,
      (λ k d below. let h = was.1 (k + 1) d in grind rules),
      (λ k h r below. below_more (λ i. ((get_or all i h).promise.0.value ≡ get_or readers i r) ×
          ((get_or all i h).promise.1.value ≡ c.args.self.now.dialect)) done
          (λ i low. let same = places.0 i h low in let kept = was.2 i h r low in
          (ap (λ x. x.promise.0.value) same ∙ kept.0, ap (λ x. x.promise.1.value) same ∙ kept.1))
          (let next : c.in-Some.reader ≡ get_or readers done r = let first = was.1 0 r in grind rules in
          let same = places.1 h (search rules) in (
            ap (λ x. x.promise.0.value) same ∙ (c.in_ok-child.ensures.0 ∙ next),
            ap (λ x. x.promise.1.value) same ∙ c.in_ok-child.ensures.1,
          ))
          k (omega arith)),
      search rules,
      search rules,
      search rules,
    )

-- Each reader was taken, so the child of each is among those that were started.
pub returns-clause-each : goal.returns-clause-each
returns-clause-each g c = λ i h r below.
    let all : vec_len c.loop-reader.children ≡ vec_len c.args.readers = search rules in
    c.loop-reader.invariant.2 i h r (omega (arith, all, below))
