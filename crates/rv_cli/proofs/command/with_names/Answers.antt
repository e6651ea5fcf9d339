use Rattle.rv_cli.proofs.Common.{ap₂, ◌∙◌, IfOk-weaker, refl, with_rule}
use Rattle.rv_cli.proofs.command.with_names.Goals as goal

pub returns : goal.returns
returns c =
    let places = c.in_ok-arg.ensures.shape c.text_option.ensures.local
    ∙ ap₂ with_rule refl c.text_option.ensures.rule in
    let list = c.in_ok-arg-2.ensures.shape c.text_option-2.ensures.local
    ∙ ap₂ with_rule places c.text_option-2.ensures.rule in
    IfOk-weaker c.arg-3.result _ _ (λ r added. added.shape c.files_arg.ensures.local ∙
    ap₂ with_rule list c.files_arg.ensures.rule) c.arg-3.ensures
