use Rattle.std.proofs.Common.{◌∙◌, ap, map, sym}
use Rattle.std.proofs.lemmas.Result.{IfOk-weaker}
use Rattle.serde_json.specs.View.{items_of}
use Rattle.rv_explain.specs.declared.explanation.Cause.{Cause}
use Rattle.rv_explain_json.specs.Explained.{cause_data, column_data}
use Rattle.rv_explain_json.proofs.Parts.{pairs}
use Rattle.rv_explain_json.proofs.explained.explanation_value.Goals as goal

pub returns-in_ok-stale-in-Stale : goal.returns-in_ok-stale-in-Stale
returns-in_ok-stale-in-Stale c =
    let e = c.args.explanation.now in
    IfOk-weaker c.with_pair.result _ _ (λ v said. said
    ∙ pairs (ap items_of (c.in_ok-columns.ensures ∙ ap (map column_data) c.as_slice.ensures.value))
    c.in_ok-refused.ensures (ap items_of c.in_ok-sources.ensures) c.in_ok-stale-in-Stale.ensures
    ∙ ap (λ (x : Cause). cause_data c.args.names.now e.columns.items e.refused x) (sym c.in-Stale.is))
    c.with_pair.ensures
