use Rattle.std.proofs.Common.{◌∙◌, ap, codes, List, ℕ}
use Rattle.rv_event.specs.Texts.{◌⋯◌}
use Rattle.rv_event.specs.declared.memory_model.MemoryModel.{MemoryModel}
use Rattle.rv_explain.specs.Telling.{explanation_text}
use Rattle.rv_explain.proofs.outcomes.forbidden_story.Goals as goal

pub returns : goal.returns
returns c = record {
  explanation = c.in_ok-explanation.explanation;
  is_one = c.in_ok-explanation.ensures;
  bytes = c.in_ok-format.ensures.ok ∙ ap (λ (text : List ℕ). codes "\n" ⋯ text) (c.in_ok-text.ensures
      ∙ ap (λ (m : MemoryModel). explanation_text m c.args.sources.names.now c.in_ok-explanation.explanation)
      c.model-model.ensures);
}
