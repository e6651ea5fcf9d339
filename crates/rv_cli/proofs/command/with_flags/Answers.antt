use Rattle.rv_cli.proofs.Common.{ap₂, ◌∙◌, IfOk-weaker, refl, with_rule}
use Rattle.rv_cli.proofs.command.with_flags.Goals as goal

pub returns : goal.returns
returns c =
    let json = c.in_ok-arg.ensures.shape c.flag.ensures.local ∙ ap₂ with_rule refl c.flag.ensures.rule in
    let carriers = c.in_ok-arg-2.ensures.shape c.flag-2.ensures.local ∙ ap₂ with_rule json c.flag-2.ensures.rule in
    let explain = c.in_ok-arg-3.ensures.shape c.flag-3.ensures.local ∙ ap₂ with_rule carriers c.flag-3.ensures.rule in
    let svg = c.in_ok-arg-4.ensures.shape c.flag-4.ensures.local ∙ ap₂ with_rule explain c.flag-4.ensures.rule in
    let coverage = c.in_ok-arg-5.ensures.shape c.flag-5.ensures.local ∙ ap₂ with_rule svg c.flag-5.ensures.rule in
    let complete = c.in_ok-arg-6.ensures.shape c.flag-6.ensures.local ∙ ap₂ with_rule coverage c.flag-6.ensures.rule in
    IfOk-weaker c.arg-7.result _ _ (λ r added. added.shape c.flag-7.ensures.local ∙
    ap₂ with_rule complete c.flag-7.ensures.rule) c.arg-7.ensures
