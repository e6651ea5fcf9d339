use Rattle.std.proofs.Common.{◌∙◌, ap, string_bytes}
use Rattle.std.proofs.lemmas.Result.{IfOk-weaker}
use Rattle.rv_event.specs.declared.memory_model.MemoryModel.{MemoryModel}
use Rattle.rv_explain.specs.RowTexts.{said_by}
use Rattle.rv_picture.specs.Pictures.{IsForbiddenPicture, plan_of, plan_text}
use Rattle.rv_picture.proofs.drawing.forbidden_picture.Goals as goal

pub returns : goal.returns
returns c =
    let texts = said_by c.args.texts.now in
    IfOk-weaker c.explanation_picture.result _ (λ text. IsForbiddenPicture c.args.names.now texts c.args.forbidden.now
    (string_bytes text)) (λ text e. record {
      explanation = c.in_ok-explanation.explanation;
      is_one = c.in_ok-explanation.ensures;
      bytes = e ∙ ap (λ (m : MemoryModel). plan_text (plan_of m c.args.names.now c.in_ok-explanation.explanation))
          c.model.ensures;
    }) c.explanation_picture.ensures
