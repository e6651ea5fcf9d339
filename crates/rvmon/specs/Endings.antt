-- What the program prints at its end, and its exit status.
use Rattle.std.specs.Prelude.{◌≡◌, ◌⊎◌, ℕ, List, [], Option, Some, None, String, codes, option_map}
use Rattle.std.specs.Global.{Global}
use Rattle.std.specs.Io.KnownBytes.{Appends}
use Rattle.rv_event.specs.Texts.{◌⋯◌}
use Rattle.rv_explain.specs.Outcomes.{IsTold}
use Rattle.rv_explain.specs.RowTexts.{Said, said_by}
use Rattle.rv_explain_json.specs.Reports.{IsExplainedLine}
use Rattle.rv_coverage.specs.declared.coverage.Coverage.{Coverage}
use Rattle.rv_coverage_report.specs.JsonData.{told_json_text}
use Rattle.rv_coverage_report.specs.Texts.{coverage_text}
use Rattle.rv_coverage_report.specs.declared.text.Extent.{Extent}
use Rattle.rv_coverage_report.specs.declared.text.Extent.TheVariants as extent
use Rattle.rv_picture.specs.Pictures.{IsPicture}
use Rattle.rv_report.specs.Texts.{report_text, line_feed}
use Rattle.rv_report.specs.declared.outcome.Outcome.{Outcome}
use Rattle.rv_report.specs.declared.outcome.Outcome.TheVariants as outcome
use Rattle.rv_replay.specs.Strengths.{strength_text}
use Rattle.rv_replay.specs.declared.strength.Strength.{Strength}
use Rattle.rv_run.specs.Completeness.{missing_text}
use Rattle.rv_run.specs.declared.fault.RunFault.TheVariants as fault
use Rattle.rv_run.specs.declared.judging.Judged.{Judged}
use Rattle.rv_run.specs.declared.missing.Missing.{Missing}
use Rattle.rv_trace.specs.declared.fault.FaultKind.{FaultKind}
use Rattle.rv_trace.specs.declared.fault.FaultKind.TheVariants as kind
use Rattle.rv_cli.specs.declared.request.WordsFault.TheVariants as words
use Rattle.rvmon.specs.declared.ending.Ending.{Ending}
use Rattle.rvmon.specs.declared.ending.Ending.TheVariants.{Ran, Failed, Words, NotText, NotOpened}
use Rattle.rvmon.specs.declared.form.Form.{Form}
use Rattle.rvmon.specs.declared.form.Form.TheVariants.{Text, Covered, Json, JsonExplained, Explained, Picture}

-- 0 for allowed, or 4 where the run lacks something; 1 for forbidden, 2 for malformed
abbrev pub status_of_allowed : Option Missing → ℕ
status_of_allowed None = 0
status_of_allowed (Some m) = 4

abbrev pub status_of : Outcome → Option Missing → ℕ
status_of (outcome.Allowed events operations waiting) m = status_of_allowed m
status_of (outcome.Forbidden f) m = 1
status_of (outcome.Malformed f) m = 2

-- 2 for a fault in the text of a source, 3 where reading or memory failed
abbrev pub status_of_kind : FaultKind → ℕ
status_of_kind kind.Header = 2
status_of_kind kind.Fields = 2
status_of_kind kind.Number = 2
status_of_kind kind.Op = 2
status_of_kind kind.Missing = 2
status_of_kind kind.NotBlank = 2
status_of_kind kind.Annotation = 2
status_of_kind kind.Dependency = 2
status_of_kind kind.TooManyDeps = 2
status_of_kind kind.TooLong = 2
status_of_kind kind.Csv = 2
status_of_kind kind.Read = 3
status_of_kind kind.NoMemory = 3

-- what is told of what the sources have exercised, if it was counted
abbrev pub covered_text : Extent → Option Coverage → List ℕ
covered_text extent None = []
covered_text extent (Some c) = coverage_text extent c

-- what is told of what the run lacks, if it lacks anything
abbrev pub incomplete_text : Option Missing → List ℕ
incomplete_text None = []
incomplete_text (Some m) = codes "incomplete: " ⋯ missing_text m ⋯ line_feed

-- what is told of how much their loads test, if that was found out
abbrev pub tested_text : Option Strength → List ℕ
tested_text None = []
tested_text (Some s) = codes "strength: " ⋯ strength_text s ⋯ line_feed

-- the lines right behind a report
abbrev pub lines_text : Judged → List ℕ
lines_text j = incomplete_text j.missing ⋯ tested_text j.strength

-- all that is told beside it
abbrev pub beside_text : Extent → Judged → List ℕ
beside_text extent j = lines_text j ⋯ covered_text extent j.coverage

-- the report as JSON, with all of that
abbrev pub json_of : Judged → List ℕ
json_of j = told_json_text j.outcome j.coverage (option_map missing_text j.missing) j.strength

-- why an event was refused, and what is told beside
pub record IsToldBehind (names : List (String Global)) (texts : Said) (extent : Extent) (j : Judged)
    (text : List ℕ) : Type 0 where
  pub told : List ℕ
  pub is_told : IsTold names texts j.outcome told
  pub bytes : text ≡ told ⋯ beside_text extent j

-- the report as text, and that behind it
pub record IsPrintedBehind (names : List (String Global)) (texts : Said) (extent : Extent) (j : Judged)
    (old new : Option (List ℕ)) : Type 0 where
  pub behind : List ℕ
  pub is_told : IsToldBehind names texts extent j behind
  pub appends : Appends old new (report_text j.outcome ⋯ behind)

-- the report as JSON, with why an event was refused, or, where the sources are allowed, with what is
-- told beside
abbrev pub IsJsonExplained : List (String Global) → Said → Judged → Outcome →
    Option (List ℕ) → Option (List ℕ) → Type 0
IsJsonExplained names texts j (outcome.Allowed events operations waiting) old new =
    Appends old new (json_of j ⋯ line_feed)
IsJsonExplained names texts j (outcome.Forbidden f) old new =
    IsExplainedLine names texts (outcome.Forbidden f) old new
IsJsonExplained names texts j (outcome.Malformed m) old new =
    IsExplainedLine names texts (outcome.Malformed m) old new

-- the picture of the outcome
pub record IsPrintedPicture (names : List (String Global)) (texts : Said) (o : Outcome)
    (old new : Option (List ℕ)) : Type 0 where
  pub bytes : List ℕ
  pub is_picture : IsPicture names texts o bytes
  pub appends : Appends old new bytes

-- what a run came to was printed in this form
abbrev pub IsPrinted : Form → Judged → Option (List ℕ) → Option (List ℕ) → Type 0
IsPrinted Text j old new = Appends old new (report_text j.outcome ⋯ lines_text j)
IsPrinted Covered j old new = Appends old new (report_text j.outcome ⋯ beside_text extent.All j)
IsPrinted Json j old new = Appends old new (json_of j ⋯ line_feed)
IsPrinted (JsonExplained b) j old new =
    IsJsonExplained b.names.items (said_by b.texts) j j.outcome old new
IsPrinted (Explained b extent) j old new = IsPrintedBehind b.names.items (said_by b.texts) extent j old new
IsPrinted (Picture b) j old new = IsPrintedPicture b.names.items (said_by b.texts) j.outcome old new

-- Where the sources were judged: the whole report and the status of what it came to, or status 3. Else
-- nothing stands on standard output, and the status says whether the input was wrong (2) or
-- something failed (3). What is said where the parser refuses the words, or is asked for help, is
-- the parser's; help that cannot be written is status 3.
abbrev pub IsSettled : Ending → Form → Option (List ℕ) → Option (List ℕ) → ℕ → Type 0
IsSettled (Ran j) form old new status =
    ((status ≡ status_of j.outcome j.missing) × IsPrinted form j old new) ⊎ (status ≡ 3)
IsSettled (Failed (fault.Trace source f)) form old new status = (status ≡ status_of_kind f.kind) × (new ≡ old)
IsSettled (Failed fault.NoMemory) form old new status = (status ≡ 3) × (new ≡ old)
IsSettled (Failed fault.Lost) form old new status = (status ≡ 3) × (new ≡ old)
IsSettled (Failed fault.Settings) form old new status = (status ≡ 3) × (new ≡ old)
IsSettled (Words words.TooMany) form old new status = (status ≡ 2) × (new ≡ old)
IsSettled (Words words.BesideList) form old new status = (status ≡ 2) × (new ≡ old)
IsSettled (Words words.NoMemory) form old new status = (status ≡ 3) × (new ≡ old)
IsSettled (Words (words.Parse e)) form old new status =
    ((status ≡ 2) × (new ≡ old)) ⊎ ((status ≡ 0) ⊎ (status ≡ 3))
IsSettled NotText form old new status = (status ≡ 2) × (new ≡ old)
IsSettled (NotOpened name) form old new status = (status ≡ 3) × (new ≡ old)
