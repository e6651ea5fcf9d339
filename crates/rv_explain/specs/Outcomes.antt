-- What is told of an outcome behind its report.
use Rattle.std.specs.Prelude.{ℕ, ◌≡◌, ◌+◌, List, [], String, codes, length}
use Rattle.std.specs.Global.{Global}
use Rattle.rv_event.specs.Texts.{◌⋯◌}
use Rattle.rv_cert.specs.Refusals.{FaultyLog, Refusal}
use Rattle.rv_report.specs.declared.outcome.Outcome.{Outcome}
use Rattle.rv_report.specs.declared.outcome.Outcome.TheVariants as outcome
use Rattle.rv_explain.specs.Explaining.{IsExplanation}
use Rattle.rv_explain.specs.Faults.{malformed_text}
use Rattle.rv_explain.specs.RowTexts.{Said}
use Rattle.rv_explain.specs.Showing.{IsShown}
use Rattle.rv_explain.specs.Telling.{explanation_text}
use Rattle.rv_explain.specs.declared.explanation.Explanation.{Explanation}
use Rattle.rv_explain.specs.declared.shown.Shown.{Shown}

-- of a forbidden log its explanation
pub record IsToldForbidden (names : List (String Global)) (texts : Said) (f : Refusal)
    (text : List ℕ) : Type 0 where
  pub explanation : Explanation
  pub is_one : IsExplanation f texts explanation
  pub bytes : text ≡ codes "\n" ⋯ explanation_text f.model names explanation

-- of a malformed one what is wrong with its last event
pub record IsToldMalformed (names : List (String Global)) (texts : Said) (m : FaultyLog)
    (text : List ℕ) : Type 0 where
  pub refused : Shown
  pub is_shown : IsShown m.evidence texts refused
  pub is_last : refused.place + 1 ≡ length m.evidence
  pub bytes : text ≡ codes "\n" ⋯ malformed_text names refused m.fault

-- and nothing of an allowed one
abbrev pub IsTold : List (String Global) → Said → Outcome → List ℕ → Type 0
IsTold names texts (outcome.Allowed events operations waiting) text = text ≡ []
IsTold names texts (outcome.Forbidden f) text = IsToldForbidden names texts f text
IsTold names texts (outcome.Malformed m) text = IsToldMalformed names texts m text
