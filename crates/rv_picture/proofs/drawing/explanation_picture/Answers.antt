use Rattle.std.proofs.Common.{◌≡◌, ◌∙◌, ap, map, rules, string_bytes}
use Rattle.std.proofs.lemmas.Result.{IfOk-weaker}
use Rattle.std.specs.Str.Lines.{lines}
use Rattle.rv_explain.specs.Telling.{cause_text, headline_text}
use Rattle.rv_picture.specs.Pictures.{plan_text}
use Rattle.rv_picture.proofs.Plans.{plans}
use Rattle.rv_picture.proofs.drawing.explanation_picture.Goals as goal

pub returns : goal.returns
returns c =
    let e = c.args.explanation.now in
    let title : map string_bytes c.as_slice-2.result.now ≡
    lines (headline_text c.args.model c.args.names.now e.refused) =
    ap (map string_bytes) c.as_slice-2.ensures.value ∙ c.in_ok-title-2.ensures
    ∙ ap lines (c.as_str.ensures.value ∙ c.in_ok-title.ensures) in
    let cause : string_bytes c.push_cause.new.text ≡ cause_text e.cause = search rules in
    let notes : map string_bytes c.as_slice-3.result.now ≡ lines (cause_text e.cause) =
    ap (map string_bytes) c.as_slice-3.ensures.value ∙ c.in_ok-notes.ensures
    ∙ ap lines (c.as_str-2.ensures.value ∙ cause) in
    IfOk-weaker c.drawn.result _ _ (λ text said. said ∙ ap plan_text (plans c.args.names.now e.refused.place
    c.as_slice-columns.ensures.value (search rules) (search rules) title notes)) c.drawn.ensures
