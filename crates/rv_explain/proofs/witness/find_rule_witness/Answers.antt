use Rattle.std.proofs.Common.{arith}
use Rattle.rv_event.specs.Log.{events}
use Rattle.rv_explain.proofs.Firsts.{first-found, none-left}
use Rattle.rv_explain.specs.Witnesses.{IsRuleWitness}
use Rattle.rv_explain.proofs.witness.find_rule_witness.Goals as goal

pub returns-then-is_rule_witness-clause-some : goal.returns-then-is_rule_witness-clause-some
returns-then-is_rule_witness-clause-some c =
    first-found (λ m. IsRuleWitness (events c.args.log.now) c.args.a.now c.args.b.now m c.args.rule) c.args.log.now
    c.loop-entry.entry-index c.entry-item.result (let low = c.loop-entry-test.true in omega (low, arith))
    c.entry-item.is c.loop-entry.invariant (c.is_rule_witness.ensures.0 c.if-is_rule_witness.true)

pub returns-clause-none : goal.returns-clause-none
returns-clause-none c =
    none-left (λ m. IsRuleWitness (events c.args.log.now) c.args.a.now c.args.b.now m c.args.rule) c.args.log.now
    c.loop-entry.entry-index (λ low. let end = c.loop-entry-test.false in omega (low, end, arith))
    c.loop-entry.invariant
