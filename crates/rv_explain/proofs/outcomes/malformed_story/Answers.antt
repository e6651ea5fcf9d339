use Rattle.std.proofs.Common.{◌∙◌, ap, codes, subst, length, List, ℕ}
use Rattle.rv_event.specs.Texts.{◌⋯◌}
use Rattle.rv_event.specs.declared.event.Entry.{Entry}
use Rattle.rv_event.specs.declared.fault.Fault.{Fault}
use Rattle.rv_explain.specs.Faults.{malformed_text}
use Rattle.rv_explain.specs.RowTexts.{said_by}
use Rattle.rv_explain.specs.Showing.{IsShown}
use Rattle.rv_explain.proofs.outcomes.malformed_story.Goals as goal

pub returns : goal.returns
returns c = record {
  refused = c.refused_of-refused.result;
  is_shown = subst (λ (log : List Entry). IsShown log (said_by c.args.sources.texts.now)
      c.refused_of-refused.result) c.evidence.ensures.value
      c.refused_of-refused.ensures.shown;
  is_last = c.refused_of-refused.ensures.last ∙ ap (λ (log : List Entry). length log) c.evidence.ensures.value;
  bytes = c.in_ok-format.ensures.ok ∙ ap (λ (text : List ℕ). codes "\n" ⋯ text) (c.in_ok-text.ensures
      ∙ ap (λ (f : Fault). malformed_text c.args.sources.names.now c.refused_of-refused.result f) c.fault.ensures);
}
