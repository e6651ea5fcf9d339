use Rattle.std.proofs.Common.{◌≡◌, ◌∙◌, ◌++◌, ◌+◌, ◌∷◌, [], ap, sym, take, arith, List, append-nil, append_assoc}
use Rattle.std.proofs.lemmas.List.{take_more}
use Rattle.rv_event.specs.declared.event.Id.{Id}
use Rattle.rv_explain.proofs.Walks.{ids-more}
use Rattle.rv_explain.specs.Steps.{ids_of_step, ids_of_steps}
use Rattle.rv_explain.specs.declared.step.Step.{Step}
use Rattle.rv_explain.proofs.step.push_ids_of_steps.Goals as goal

pub steps-init : goal.steps-init
unfolding ids_of_steps
steps-init c = sym (append-nil c.args.ids.now.items)

pub steps-preserved : goal.steps-preserved
steps-preserved c =
    let k = c.steps.step-index in
    let steps = take k c.args.steps.now in
    let next : take (k + 1) c.args.steps.now ≡ steps ++ c.step-item.result ∷ [] =
    take_more c.args.steps.now k c.step-item.result (let low = c.steps-test.true in omega (low, arith))
    ∙ ap (λ (s : Step). steps ++ s ∷ []) (sym c.step-item.is) in
    c.in_ok-push_ids.ensures
    ∙ ap (λ (ids : List Id). ids ++ ids_of_step c.step-item.result) c.steps.invariant
    ∙ append_assoc c.args.ids.now.items (ids_of_steps steps) (ids_of_step c.step-item.result)
    ∙ ap (λ (ids : List Id). c.args.ids.now.items ++ ids)
    (sym (ap ids_of_steps next ∙ ids-more steps c.step-item.result))
