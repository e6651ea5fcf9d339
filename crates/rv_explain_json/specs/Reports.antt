-- The JSON report of an outcome with its explanation, as data.
use Rattle.std.specs.Prelude.{◌≡◌, ◌+◌, ℕ, List, Option, String, codes, length}
use Rattle.std.specs.Global.{Global}
use Rattle.std.specs.Io.KnownBytes.{Appends}
use Rattle.serde_json.specs.Data.{Data, null, boolean, number, string, array, object, put}
use Rattle.serde_json.specs.Written.{compact_text}
use Rattle.rv_event.specs.Texts.{◌⋯◌}
use Rattle.rv_cert.specs.Refusals.{FaultyLog, Refusal}
use Rattle.rv_report.specs.JsonData.{report_data}
use Rattle.rv_report.specs.Texts.{line_feed}
use Rattle.rv_report.specs.Writing.{IsCutShort}
use Rattle.rv_report.specs.declared.outcome.Outcome.{Outcome}
use Rattle.rv_report.specs.declared.outcome.Outcome.TheVariants as outcome
use Rattle.rv_explain.specs.Explaining.{IsExplanation}
use Rattle.rv_explain.specs.RowTexts.{Said}
use Rattle.rv_explain.specs.Showing.{IsShown}
use Rattle.rv_explain.specs.declared.explanation.Explanation.{Explanation}
use Rattle.rv_explain.specs.declared.shown.Shown.{Shown}
use Rattle.rv_explain_json.specs.Explained.{explanation_data, fault_data}

-- an object with a member more
abbrev pub with_explanation : Data → Data → Data
with_explanation e null = null
with_explanation e (boolean b) = boolean b
with_explanation e (number n) = number n
with_explanation e (string s) = string s
with_explanation e (array ds) = array ds
with_explanation e (object ms) = object (put (codes "explanation") e ms)

-- of a forbidden log: the report, and its explanation
pub record IsExplainedForbidden (names : List (String Global)) (texts : Said) (f : Refusal) (d : Data) : Type 0 where
  pub explanation : Explanation
  pub is_one : IsExplanation f texts explanation
  pub said : d ≡ with_explanation (explanation_data names explanation) (report_data (outcome.Forbidden f))

-- of a malformed one: the report, and what is wrong with its last event
pub record IsExplainedMalformed (names : List (String Global)) (texts : Said) (m : FaultyLog) (d : Data) : Type 0 where
  pub refused : Shown
  pub is_shown : IsShown m.evidence texts refused
  pub is_last : refused.place + 1 ≡ length m.evidence
  pub said : d ≡ with_explanation (fault_data names refused m.fault) (report_data (outcome.Malformed m))

-- and of an allowed one the report alone
abbrev pub IsExplained : List (String Global) → Said → Outcome → Data → Type 0
IsExplained names texts (outcome.Allowed events operations waiting) d =
    d ≡ report_data (outcome.Allowed events operations waiting)
IsExplained names texts (outcome.Forbidden f) d = IsExplainedForbidden names texts f d
IsExplained names texts (outcome.Malformed m) d = IsExplainedMalformed names texts m d

-- its compact text was appended, and a line feed
pub record IsExplainedLine (names : List (String Global)) (texts : Said) (o : Outcome)
    (old new : Option (List ℕ)) : Type 0 where
  pub report : Data
  pub is_explained : IsExplained names texts o report
  pub appends : Appends old new (compact_text report ⋯ line_feed)

-- a part of that was appended, from its first byte on
pub record IsCutExplained (names : List (String Global)) (texts : Said) (o : Outcome)
    (old new : Option (List ℕ)) : Type 0 where
  pub report : Data
  pub is_explained : IsExplained names texts o report
  pub cut : IsCutShort old new (compact_text report ⋯ line_feed)
