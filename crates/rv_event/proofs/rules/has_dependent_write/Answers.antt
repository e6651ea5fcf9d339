use Rattle.rv_event.proofs.Common.{rules, tests, cases_from_any, YieldsList-from_slice, Event}
use Rattle.rv_event.specs.Carried.{IsDependentWriteBy}
use Rattle.rv_event.proofs.Scans.{any_event}
use Rattle.rv_event.proofs.rules.has_dependent_write.Goals as goal

pub returns : goal.returns
returns c =
    let P : Event → Type 0 = IsDependentWriteBy c.args.a.now c.args.b.now c.args.carriers.now in
    any_event P c.args.log.now c.any.result
    (cases_from_any _ _ _ (λ x. P x.event) (λ x. P x.event → ⊥) c.any.ensures.ran
    (YieldsList-from_slice c.args.log.now cc) (λ x q k. search (rules, tests)) (λ x q k. search (rules, tests)))
