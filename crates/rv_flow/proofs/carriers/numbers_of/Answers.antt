use Rattle.rv_flow.proofs.Numbers.{all-numbers, one-number, smaller}
use Rattle.rv_flow.proofs.carriers.numbers_of.Goals as goal

-- src/carriers.rt:51:5
pub numbers-smaller : goal.numbers-smaller
numbers-smaller c =
    smaller c.numbers.rest c.remove.new.self c.numbers.latest c.in-Some.highest c.in-Some.is
    c.numbers.invariant.highest c.remove.ensures c.highest-latest-in-Some.result c.highest-latest-in-Some.ensures

-- src/carriers.rt:51:5
pub numbers-preserved : goal.numbers-preserved
numbers-preserved c = record {
  highest = c.highest-latest-in-Some.ensures;
  known = one-number c.numbers.rest c.remove.new.self c.numbers.latest c.in-Some.highest c.in-Some.is
      c.numbers.invariant.highest c.remove.ensures c.args.set.now c.numbers.numbers.items c.numbers.invariant.known
      c.push.new.self.items c.in_ok-push.ensures.items;
}

-- src/carriers.rt:44:1
pub returns : goal.returns
returns c = all-numbers c.args.set.now c.numbers.rest c.numbers.numbers.items c.reverse.new.self.items
    c.numbers.latest c.in_default.is c.numbers.invariant.highest c.numbers.invariant.known c.reverse.ensures.items
