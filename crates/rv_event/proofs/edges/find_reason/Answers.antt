use Rattle.rv_event.proofs.Common.{sym, ◌∙◌, ◌<◌, arith, false≢true, events}
use Rattle.rv_event.proofs.Conditions.{Condition-below}
use Rattle.rv_event.proofs.Reasons.{no_reason, none_below}
use Rattle.rv_event.proofs.edges.find_reason.Goals as goal

pub returns-in-Some-clause-first : goal.returns-in-Some-clause-first
returns-in-Some-clause-first c =
    let log = events c.args.log.now in
    let is = c.in-Some.ensures.some in
    let few : c.in-Some.rule < 14 = Condition-below c.args.model log is.a is.b c.in-Some.rule is.rule.condition in
    none_below c.args.model log c.args.from c.args.to c.in-Some.rule c.in-Some.ensures.lowest
    (λ high. omega (arith, few, high)) (λ high. omega (arith, few, high)) (λ high. omega (arith, few, high))
    (λ high. omega (arith, few, high)) (omega (arith, few))

pub returns-then-is_edge-clause-first : goal.returns-then-is_edge-clause-first
returns-then-is_edge-clause-first c =
    let none = rw c.in_default.is at c.lowest_rule.ensures.none in
    none_below c.args.model (events c.args.log.now) c.args.from c.args.to 14 (λ k low. none k)
    (λ high. omega (arith, high)) (λ high. omega (arith, high)) (λ high. omega (arith, high))
    (λ high. omega (arith, high)) (omega arith)

pub returns-then-is_edge-3-clause-first : goal.returns-then-is_edge-3-clause-first
returns-then-is_edge-3-clause-first c =
    let none = rw c.in_default.is at c.lowest_rule.ensures.none in
    none_below c.args.model (events c.args.log.now) c.args.from c.args.to 16 (λ k low. none k)
    (λ high h. false≢true (sym c.if-is_edge.false ∙ c.is_edge.ensures.1 h))
    (λ high h. false≢true (sym c.if-is_edge-2.false ∙ c.is_edge-2.ensures.1 h))
    (λ high. omega (arith, high)) (λ high. omega (arith, high)) (omega arith)

pub returns-then-is_edge-4-clause-first : goal.returns-then-is_edge-4-clause-first
returns-then-is_edge-4-clause-first c =
    let none = rw c.in_default.is at c.lowest_rule.ensures.none in
    none_below c.args.model (events c.args.log.now) c.args.from c.args.to 17 (λ k low. none k)
    (λ high h. false≢true (sym c.if-is_edge.false ∙ c.is_edge.ensures.1 h))
    (λ high h. false≢true (sym c.if-is_edge-2.false ∙ c.is_edge-2.ensures.1 h))
    (λ high h. false≢true (sym c.if-is_edge-3.false ∙ c.is_edge-3.ensures.1 h))
    (λ high. omega (arith, high)) (omega arith)

pub returns-clause-none : goal.returns-clause-none
returns-clause-none c = no_reason c.args.model (events c.args.log.now) c.args.from c.args.to
    (rw c.in_default.is at c.lowest_rule.ensures.none)
    (λ h. false≢true (sym c.if-is_edge.false ∙ c.is_edge.ensures.1 h))
    (λ h. false≢true (sym c.if-is_edge-2.false ∙ c.is_edge-2.ensures.1 h))
    (λ h. false≢true (sym c.if-is_edge-3.false ∙ c.is_edge-3.ensures.1 h))
    (λ h. false≢true (sym c.if-is_edge-4.false ∙ c.is_edge-4.ensures.1 h))
    (λ h. false≢true (sym c.if-is_edge-5.false ∙ c.is_edge-5.ensures.1 h))
