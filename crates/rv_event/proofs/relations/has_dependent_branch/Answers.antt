use Rattle.rv_event.proofs.Common.{◌≡◌, rules, tests, cases_from_any, YieldsList-from_slice}
use Rattle.rv_event.proofs.Common.{Between, Ctrl, Branch, Event}
use Rattle.rv_event.specs.Carried.{DependsBy}
use Rattle.rv_event.proofs.Scans.{any_event}
use Rattle.rv_event.proofs.relations.has_dependent_branch.Goals as goal

pub returns : goal.returns
returns c =
    let P : Event → Type 0 = λ m. Between c.args.a.now m c.args.b.now × (m.op ≡ Branch) ×
    DependsBy Ctrl m c.args.a.now c.args.carriers.now in
    any_event P c.args.log.now c.any.result
    (cases_from_any _ _ _ (λ x. P x.event) (λ x. P x.event → ⊥) c.any.ensures.ran
    (YieldsList-from_slice c.args.log.now cc) (λ x q k. search (rules, tests)) (λ x q k. search (rules, tests)))
