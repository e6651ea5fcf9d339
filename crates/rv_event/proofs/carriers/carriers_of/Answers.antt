use Rattle.rv_event.proofs.Common.{events, sym, ◌∙◌, arith, false≢true}
use Rattle.rv_event.proofs.Carrying.{all-marked, all-numbers, one-round}
use Rattle.rv_event.proofs.carriers.carriers_of.Goals as goal

-- src/carriers.rt
pub rounds-init : goal.rounds-init
rounds-init c = record {
  sound = λ n has. absurd (false≢true (sym (c.new-marked.ensures n) ∙ has));
  below = λ n low any. absurd (omega (low, arith));
}

pub returns-then-not-mark_carriers : goal.returns-then-not-mark_carriers
returns-then-not-mark_carriers c n = (
  λ has. c.mark_carriers.ensures.sound c.rounds.invariant.sound n has,
  λ any. all-marked (events c.args.log.now) c.args.on.now c.rounds.marked c.mark_carriers.new.marked
      c.mark_carriers.ensures.full (c.mark_carriers.ensures.same c.if-not-mark_carriers.true) n any,
)

pub rounds-preserved : goal.rounds-preserved
rounds-preserved c = record {
  sound = c.mark_carriers.ensures.sound c.rounds.invariant.sound;
  below = one-round (events c.args.log.now) c.args.on.now c.rounds.marked c.mark_carriers.new.marked
      c.mark_carriers.ensures.full c.rounds.counter c.rounds.invariant.below;
}

pub returns : goal.returns
returns c n = (
  λ has. c.rounds.invariant.sound n has,
  λ any. all-numbers (events c.args.log.now) c.args.on.now c.rounds.marked
      (λ m low. c.rounds.invariant.below m (let end = c.rounds-test.false in omega (low, end, arith))) n any,
)
