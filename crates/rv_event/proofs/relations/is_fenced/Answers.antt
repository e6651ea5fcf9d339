use Rattle.rv_event.proofs.Common.{IsTrue, rules, tests, cases_from_any, YieldsList-from_slice, Between}
use Rattle.rv_event.proofs.Common.{fence_orders, Event}
use Rattle.rv_event.proofs.Scans.{any_event}
use Rattle.rv_event.proofs.relations.is_fenced.Goals as goal

pub returns : goal.returns
returns c =
    let P : Event → Type 0 = λ f. Between c.args.a.now f c.args.b.now ×
    IsTrue (fence_orders f.op c.args.a.now.op c.args.b.now.op) in
    any_event P c.args.log.now c.any.result
    (cases_from_any _ _ _ (λ x. P x.event) (λ x. P x.event → ⊥) c.any.ensures.ran
    (YieldsList-from_slice c.args.log.now cc) (λ x q k. search (rules, tests)) (λ x q k. search (rules, tests)))
