use Rattle.std.proofs.Common.{◌≡◌, ◌==◌, ◌+◌, ◌++◌, ◌∷◌, [], length, rules, arith, string_bytes, ap, sym, ◌∙◌}
use Rattle.std.proofs.lemmas.Iterator.Consumers.{YieldsList-turn, YieldsList-end}
use Rattle.std.proofs.lemmas.Iterator.Splits.{YieldsList-from_slice_split}
use Rattle.std.proofs.lemmas.List.{length_push, length-map}
use Rattle.rv_list.specs.Names.{parts}
use Rattle.rv_list.proofs.Listed.{IsPart, names-all, names-good, names-more, part-fault}
use Rattle.rv_list.proofs.names.names_in.Goals as goal

pub returns-then-len-ge-MAX_FILES-clause-fault : goal.returns-then-len-ge-MAX_FILES-clause-fault
returns-then-len-ge-MAX_FILES-clause-fault c =
    let at : IsPart (parts c.args.line.now) (length c.loop-part.yielded) c.in-Some.part.now =
    YieldsList-turn (YieldsList-from_slice_split {s = c.into_iter-part-iterator.result} _ (λ b. b == 9)
    c.args.line.now (cc) (cc) (cc) (λ x b q h. search rules))
    c.loop-part.yielded _ c.loop-part.yielded_by _ _ c.in-Some.part c.in-Some.is c.next.ensures.steps in
    omega (
      arith,
      at.0,
      c.loop-part.invariant.count,
      c.loop-part.names.ok.0,
      c.len.ensures,
      c.if-len-ge-MAX_FILES.true,
    )

pub returns-in_err-name_in-clause-fault : goal.returns-in_err-name_in-clause-fault
returns-in_err-name_in-clause-fault c =
    let at : IsPart (parts c.args.line.now) (length c.loop-part.yielded) c.in-Some.part.now =
    YieldsList-turn (YieldsList-from_slice_split {s = c.into_iter-part-iterator.result} _ (λ b. b == 9)
    c.args.line.now (cc) (cc) (cc) (λ x b q h. search rules))
    c.loop-part.yielded _ c.loop-part.yielded_by _ _ c.in-Some.part c.in-Some.is c.next.ensures.steps in
    search (part-fault, at, rules)

pub loop-part-preserved : goal.loop-part-preserved
loop-part-preserved c =
    let at : IsPart (parts c.args.line.now) (length c.loop-part.yielded) c.in-Some.part.now =
    YieldsList-turn (YieldsList-from_slice_split {s = c.into_iter-part-iterator.result} _ (λ b. b == 9)
    c.args.line.now (cc) (cc) (cc) (λ x b q h. search rules))
    c.loop-part.yielded _ c.loop-part.yielded_by _ _ c.in-Some.part c.in-Some.is c.next.ensures.steps in
    let name = c.in_ok-name_in.field-0 in
    let good = c.in_ok-name_in.ensures.name in
    let names = c.loop-part.names.items in
    let items : c.push.new.self.items ≡ names ++ name ∷ [] = search rules in
    let next = length_push c.loop-part.yielded c.in-Some.part in
    let longer : length c.push.new.self.items ≡ length names + 1 = ap length items ∙ length_push names name in
    record {
      are = names-more (parts c.args.line.now) names c.push.new.self.items name (length c.loop-part.yielded) _
          c.in-Some.part.now c.loop-part.invariant.are at items good.0 next;
      all = names-good names c.push.new.self.items name c.in-Some.part.now c.loop-part.invariant.all items good.0
          good.1;
      few = omega (arith, longer, c.loop-part.names.ok.0, c.len.ensures, c.if-len-ge-MAX_FILES.false);
      count = longer ∙ ap (λ n. n + 1) c.loop-part.invariant.count ∙ sym next;
    }

pub returns-clause-names : goal.returns-clause-names
returns-clause-names c =
    let end = YieldsList-end (YieldsList-from_slice_split {s = c.into_iter-part-iterator.result} _ (λ b. b == 9)
    c.args.line.now (cc) (cc) (cc) (λ x b q h. search rules))
    c.loop-part.yielded _ c.loop-part.yielded_by _ _ c.in-None.is c.next.ensures.steps in
    names-all c.args.line.now c.loop-part.names.items (length c.loop-part.yielded) c.loop-part.invariant.are
    (omega (arith, end.1)) c.loop-part.invariant.all
    (omega (arith, length-map c.loop-part.names.items string_bytes, c.loop-part.invariant.few))
