use Rattle.std.proofs.Common.{◌∙◌, ap, ap₂, subst, sym}
use Rattle.serde_json.specs.View.{view}
use Rattle.serde_json.specs.Written.{has_float}
use Rattle.rv_report.specs.JsonData.{report_data}
use Rattle.rv_report.specs.declared.outcome.Outcome.{Outcome}
use Rattle.rv_explain.specs.RowTexts.{said_by}
use Rattle.rv_explain_json.specs.Reports.{IsExplained, with_explanation}
use Rattle.rv_explain_json.proofs.Floats.{explanation-none, fault-none, with-none}
use Rattle.rv_explain_json.proofs.report.explained_json.Goals as goal

pub returns-in_ok-with_explanation-in-Forbidden-clause-data :
    goal.returns-in_ok-with_explanation-in-Forbidden-clause-data
returns-in_ok-with_explanation-in-Forbidden-clause-data c =
    let is = c.in-Forbidden.is in
    let texts = said_by c.args.sources.texts.now in
    let report = view c.in_ok-with_explanation-in-Forbidden.field-0 in
    subst (λ (o : Outcome). IsExplained c.args.sources.names.now texts o report) (sym is)
    (record {
      explanation = c.in_ok-explanation-in-Forbidden.explanation;
      is_one = c.in_ok-explanation-in-Forbidden.ensures;
      said = c.in_ok-with_explanation-in-Forbidden.ensures
          ∙ ap₂ with_explanation c.in_ok-value-in-Forbidden.ensures (c.in_ok-report.ensures.data ∙ ap report_data is);
    })

pub returns-in_ok-with_explanation-in-Forbidden-clause-no_float :
    goal.returns-in_ok-with_explanation-in-Forbidden-clause-no_float
returns-in_ok-with_explanation-in-Forbidden-clause-no_float c =
    ap has_float c.in_ok-with_explanation-in-Forbidden.ensures
    ∙ with-none (view c.in_ok-value-in-Forbidden.value) (view c.in_ok-report.report)
    (ap has_float c.in_ok-value-in-Forbidden.ensures
    ∙ explanation-none c.args.sources.names.now c.in_ok-explanation-in-Forbidden.explanation)
    c.in_ok-report.ensures.no_float

pub returns-in_ok-with_explanation-in-Malformed-clause-no_float :
    goal.returns-in_ok-with_explanation-in-Malformed-clause-no_float
returns-in_ok-with_explanation-in-Malformed-clause-no_float c =
    ap has_float c.in_ok-with_explanation-in-Malformed.ensures
    ∙ with-none (view c.in_ok-value-in-Malformed.value) (view c.in_ok-report.report)
    (ap has_float c.in_ok-value-in-Malformed.ensures
    ∙ fault-none c.args.sources.names.now c.refused_of-refused.result c.fault.result)
    c.in_ok-report.ensures.no_float
