use Rattle.std.proofs.Common.{◌≡◌, ◌==◌, ◌+◌, ◌++◌, ◌∷◌, [], Err, length, rules, arith, refl}
use Rattle.std.proofs.lemmas.Grind.{common_steps}
use Rattle.std.proofs.lemmas.Iterator.Consumers.{YieldsList-turn, YieldsList-end}
use Rattle.std.proofs.lemmas.Iterator.Splits.{YieldsList-from_slice_split}
use Rattle.std.proofs.lemmas.List.{length_push}
use Rattle.rv_trace.specs.Dependencies.{each_dependency, parts}
use Rattle.rv_trace.proofs.Parts.{IsPart, part-read, part-wrong, parts-read}
use Rattle.rv_trace.proofs.dependency.each_of.Goals as goal

pub returns-in_err-dep-clause-value : goal.returns-in_err-dep-clause-value
returns-in_err-dep-clause-value c =
    let at : IsPart (parts c.args.text.now) (length c.loop-part.yielded) c.in-Some.part.now =
    YieldsList-turn (YieldsList-from_slice_split {s = c.into_iter-part-iterator.result} _ (λ b. b == 32)
    c.args.text.now (cc) (cc) (cc) (λ x b q h. search rules))
    c.loop-part.yielded _ c.loop-part.yielded_by _ _ c.in-Some.part c.in-Some.is c.next.ensures.steps in
    let wrong : each_dependency c.args.columns (parts c.args.text.now) ≡ Err c.in_err-dep.field-0.0 =
    part-wrong c.args.columns (parts c.args.text.now) (length c.loop-part.yielded) c.in-Some.part.now
    c.loop-part.deps _ _ at c.loop-part.invariant.said c.in_err-dep.ensures.value in
    search (rules, wrong)

pub loop-part-preserved : goal.loop-part-preserved
loop-part-preserved c =
    let at : IsPart (parts c.args.text.now) (length c.loop-part.yielded) c.in-Some.part.now =
    YieldsList-turn (YieldsList-from_slice_split {s = c.into_iter-part-iterator.result} _ (λ b. b == 32)
    c.args.text.now (cc) (cc) (cc) (λ x b q h. search rules))
    c.loop-part.yielded _ c.loop-part.yielded_by _ _ c.in-Some.part c.in-Some.is c.next.ensures.steps in
    let more : length (c.loop-part.yielded ++ (c.in-Some.part ∷ [])) ≡ length c.loop-part.yielded + 1 = length_push
    c.loop-part.yielded c.in-Some.part in
    let items : c.push.new.self ≡ c.loop-part.deps ++ (c.in_ok-dep.dep ∷ []) = search rules in
    record {
      said = rw more (part-read c.args.columns (parts c.args.text.now) (length c.loop-part.yielded)
          c.in-Some.part.now c.loop-part.deps _ c.in_ok-dep.dep _ at c.loop-part.invariant.said
          c.in_ok-dep.ensures.value items);
      count = rw (items, length_push c.loop-part.deps c.in_ok-dep.dep, more, c.loop-part.invariant.count) refl;
      small = rw items (grind (arith, common_steps, c.loop-part.invariant.small, c.in_ok-dep.ensures.bound));
    }

pub returns-clause-value : goal.returns-clause-value
returns-clause-value c =
    let end = YieldsList-end (YieldsList-from_slice_split {s = c.into_iter-part-iterator.result} _ (λ b. b == 32)
    c.args.text.now (cc) (cc) (cc) (λ x b q h. search rules))
    c.loop-part.yielded _ c.loop-part.yielded_by _ _ c.in-None.is c.next.ensures.steps in
    parts-read c.args.columns (parts c.args.text.now) (length c.loop-part.yielded)
    c.loop-part.deps _ (omega (arith, end.1)) c.loop-part.invariant.said

pub returns-clause-count : goal.returns-clause-count
returns-clause-count c =
    let end = YieldsList-end (YieldsList-from_slice_split {s = c.into_iter-part-iterator.result} _ (λ b. b == 32)
    c.args.text.now (cc) (cc) (cc) (λ x b q h. search rules))
    c.loop-part.yielded _ c.loop-part.yielded_by _ _ c.in-None.is c.next.ensures.steps in
    rw c.loop-part.invariant.count end.1
