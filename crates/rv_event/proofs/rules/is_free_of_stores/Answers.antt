use Rattle.rv_event.proofs.Common.{◌≢◌, rules, tests, cases_from_all, YieldsList-from_slice, Between, IsStore}
use Rattle.rv_event.proofs.Common.{Event}
use Rattle.rv_event.proofs.Scans.{all_event}
use Rattle.rv_event.proofs.rules.is_free_of_stores.Goals as goal

pub returns : goal.returns
returns c =
    let P : Event → Type 0 = λ m. Between c.args.a.now m c.args.b.now → IsStore m → m.word ≢ c.args.a.now.word in
    all_event P c.args.log.now c.all.result
    (cases_from_all _ _ _ (λ x. P x.event) (λ x. P x.event → ⊥) c.all.ensures.ran
    (YieldsList-from_slice c.args.log.now cc) (λ x q k. search (rules, tests)) (λ x q k. search (rules, tests)))
