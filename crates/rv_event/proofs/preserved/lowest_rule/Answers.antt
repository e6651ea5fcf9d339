use Rattle.rv_event.proofs.Common.{rules, ◌<◌, arith, events}
use Rattle.rv_event.proofs.Conditions.{Condition-above, Condition-number}
use Rattle.rv_event.proofs.preserved.lowest_rule.Goals as goal

pub returns-clause-none : goal.returns-clause-none
returns-clause-none c k p =
    let few : k < 14 = Condition-number c.args.model (events c.args.log.now) p.a p.b k p.rule.condition in
    c.loop-k.invariant k (omega arith) p

pub loop-k-init : goal.loop-k-init
loop-k-init c j low p = search (Condition-above, rules)
