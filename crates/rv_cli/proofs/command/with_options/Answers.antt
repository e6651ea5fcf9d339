use Rattle.rv_cli.proofs.Common.{ap₂, ◌∙◌, IfOk-weaker, with_rule}
use Rattle.rv_cli.proofs.command.with_options.Goals as goal

pub returns : goal.returns
returns c =
    let workers = c.workers_arg.ensures in
    let slots = c.slots_arg.ensures in
    let model = c.model_arg.ensures in
    let one = c.in_ok-arg.ensures.shape workers.local ∙ ap₂ with_rule c.bare_command.ensures workers.rule in
    let two = c.in_ok-arg-2.ensures.shape slots.local ∙ ap₂ with_rule one slots.rule in
    IfOk-weaker c.arg-3.result _ _ (λ r added. (
      model.rule.0,
      model.rule.1,
      added.shape model.local ∙ ap₂ with_rule two model.rule.2,
    )) c.arg-3.ensures
