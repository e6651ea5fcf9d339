use Rattle.rv_event.proofs.Common.{◌≡◌, ◌<◌, rules, tests, cases_from_any, YieldsList-from_slice, events, Paired}
use Rattle.rv_event.proofs.Common.{Event}
use Rattle.rv_event.proofs.Scans.{any_event}
use Rattle.rv_event.proofs.edges.has_older_reservation.Goals as goal

pub returns : goal.returns
returns c =
    let P : Event → Type 0 = λ lr. Paired (events c.args.log.now) lr c.args.a.now × (c.args.b.now.word ≡ lr.word) ×
    (lr.read < c.args.b.now.wrote) in
    any_event P c.args.log.now c.any.result
    (cases_from_any _ _ _ (λ x. P x.event) (λ x. P x.event → ⊥) c.any.ensures.ran
    (YieldsList-from_slice c.args.log.now cc) (λ x q k. search (rules, tests)) (λ x q k. search (rules, tests)))
