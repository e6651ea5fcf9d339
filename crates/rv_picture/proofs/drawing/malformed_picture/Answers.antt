use Rattle.std.proofs.Common.{◌∙◌, ◌+◌, ap, subst, length, List, ℕ, string_bytes}
use Rattle.std.specs.Prelude.{option_map}
use Rattle.std.proofs.lemmas.Result.{IfOk-weaker}
use Rattle.std.specs.Str.Lines.{lines}
use Rattle.rv_event.specs.declared.event.Entry.{Entry}
use Rattle.rv_event.specs.declared.fault.Fault.{Fault}
use Rattle.rv_explain.specs.Faults.{malformed_text}
use Rattle.rv_explain.specs.RowTexts.{said_by}
use Rattle.rv_explain.specs.Showing.{IsShown}
use Rattle.rv_picture.specs.Escaping.{xml_text}
use Rattle.rv_picture.specs.Pictures.{IsMalformedPicture, page_text}
use Rattle.rv_picture.proofs.Spelled.{spelled-shown}
use Rattle.rv_picture.proofs.drawing.malformed_picture.Goals as goal

pub returns : goal.returns
returns c =
    let refused = c.with_text-refused.result in
    let texts = said_by c.args.texts.now in
    let spelled = λ (source row : ℕ). option_map xml_text (texts source row) in
    let same = c.with_text-refused.ensures in
    let shown = spelled-shown c.evidence.result.now texts c.refused_of-refused.result refused
    c.refused_of-refused.ensures.shown same.entry same.place same.row (same.text ∙ c.in_ok-said.ensures) in
    IfOk-weaker c.page.result _ (λ text. IsMalformedPicture c.args.names.now texts c.args.malformed.now
    (string_bytes text)) (λ text e. record {
      refused = refused;
      is_shown = subst (λ (log : List Entry). IsShown log spelled refused) c.evidence.ensures.value shown;
      is_last = ap (λ (n : ℕ). n + 1) same.place ∙ c.refused_of-refused.ensures.last
          ∙ ap (λ (log : List Entry). length log) c.evidence.ensures.value;
      bytes = e ∙ ap (λ (t : List ℕ). page_text (lines t)) (c.as_str.ensures.value ∙ c.in_ok-text.ensures
          ∙ ap (λ (f : Fault). malformed_text c.args.names.now refused f) c.fault.ensures);
    }) c.page.ensures
