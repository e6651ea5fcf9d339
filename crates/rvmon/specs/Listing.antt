-- What is told of the traces of a list: a line of JSON for each, one after another.
use Rattle.std.specs.Prelude.{◌≡◌, ◌⊎◌, ◌==◌, ◌&&◌, ℕ, Bool, false, List, [], Option, None, Some, All, codes}
use Rattle.std.specs.Prelude.{IfSome, String, bytes_eq, if◌then◌else◌, length, map, nat_lt, option_map, string_bytes}
use Rattle.std.specs.Global.{Global}
use Rattle.std.specs.Io.KnownBytes.{Appends}
use Rattle.std.specs.List.{concat, fold}
use Rattle.std.specs.Str.Lines.{lines}
use Rattle.clap.specs.Words.{Text}
use Rattle.rv_event.specs.Texts.{◌⋯◌}
use Rattle.rv_trace.specs.Faults.{fault_number}
use Rattle.rv_trace.specs.declared.fault.TraceFault.{TraceFault}
use Rattle.rv_report.specs.Texts.{line_feed}
use Rattle.rv_coverage_report.specs.JsonData.{told_data}
use Rattle.rv_list.specs.Lines.{failed_text, failure_data, judged_text}
use Rattle.rv_list.specs.Names.{AreNames, IsNamesFault}
use Rattle.rv_list.specs.declared.names.NamesFault.{NamesFault}
use Rattle.rv_list.specs.declared.names.NamesFault.TheVariants as names_fault
use Rattle.rv_run.specs.Completeness.{missing_text}
use Rattle.rv_run.specs.declared.fault.RunFault.{RunFault}
use Rattle.rv_run.specs.declared.fault.RunFault.TheVariants as fault
use Rattle.rv_run.specs.declared.judging.Judged.{Judged}
use Rattle.rv_cli.specs.declared.request.Asked.{Asked}
use Rattle.rvmon.specs.Endings.{status_of, status_of_kind}
use Rattle.rvmon.specs.Starting.{EndsAsked}
use Rattle.rvmon.specs.declared.ending.Ending.{Ending}
use Rattle.rvmon.specs.declared.ending.Ending.TheVariants.{Ran, Failed, Words, NotText, NotOpened}

-- ---- one trace
-- its request: these files, with the settings of the whole
pub record IsRequestOf (whole : Asked) (names : List Text) (asked : Asked) : Type 0 where
  pub files : map string_bytes asked.files.items ≡ names
  pub model : asked.model ≡ whole.model
  pub carriers : asked.carriers ≡ whole.carriers
  pub coverage : asked.coverage ≡ whole.coverage
  pub complete : asked.complete ≡ whole.complete
  pub strength : asked.strength ≡ whole.strength
  pub explain : asked.explain ≡ false

-- the line and the status of one that was judged
pub record IsJudgedTold (names : List Text) (j : Judged) (text : List ℕ) (status : ℕ) : Type 0 where
  pub status_is : status ≡ status_of j.outcome j.missing
  pub text_is : text ≡ judged_text names status
      (told_data j.outcome j.coverage (option_map missing_text j.missing) j.strength)

-- of one whose source has a fault: which, and words for it
pub record IsFaultTold (names : List Text) (source : ℕ) (f : TraceFault) (text : List ℕ) (status : ℕ) : Type 0 where
  pub status_is : status ≡ status_of_kind f.kind
  pub words : List ℕ
  pub text_is : text ≡ failed_text names status
      (failure_data (Some source) (Some f.row) (Some (fault_number f.kind)) words)

-- of one that was not judged for another reason: words for that
pub record IsFailureTold (names : List Text) (status : ℕ) (text : List ℕ) : Type 0 where
  pub words : List ℕ
  pub text_is : text ≡ failed_text names status (failure_data None None None words)

-- of one that failed
abbrev pub IsFailedTold : List Text → RunFault → List ℕ → ℕ → Type 0
IsFailedTold names (fault.Trace source f) text status = IsFaultTold names source f text status
IsFailedTold names fault.NoMemory text status = (status ≡ 3) × IsFailureTold names status text
IsFailedTold names fault.Lost text status = (status ≡ 3) × IsFailureTold names status text
IsFailedTold names fault.Settings text status = (status ≡ 3) × IsFailureTold names status text

-- of one that ends so
abbrev pub IsTraceTold : List Text → Ending → List ℕ → ℕ → Type 0
IsTraceTold names (Ran j) text status = IsJudgedTold names j text status
IsTraceTold names (Failed f) text status = IsFailedTold names f text status
IsTraceTold names (Words f) text status = ⊥
IsTraceTold names NotText text status = ⊥
IsTraceTold names (NotOpened name) text status = (status ≡ 3) × IsFailureTold names status text

-- ---- one line of the list
-- 2 for a line that names no trace, 3 where memory was refused
abbrev pub status_of_names : NamesFault → ℕ
status_of_names names_fault.NotText = 2
status_of_names names_fault.TooMany = 2
status_of_names names_fault.Empty = 2
status_of_names names_fault.NoMemory = 3

-- of a line that names no trace
pub record IsNoTraceTold (line text : List ℕ) (status : ℕ) : Type 0 where
  pub reason : NamesFault
  pub is_reason : IsNamesFault line reason
  pub status_is : status ≡ status_of_names reason
  pub told : IsFailureTold [] status text

-- of one that names a trace: what the request of that trace ends with
pub record IsNamedTold (known : Text → Option (List ℕ)) (whole : Asked) (line text : List ℕ) (status : ℕ)
    : Type 0 where
  pub names : List Text
  pub are_names : AreNames line names
  pub asked : Asked
  pub is_request : IsRequestOf whole names asked
  pub ending : Ending
  pub ends : EndsAsked known asked ending
  pub told : IsTraceTold names ending text status

abbrev pub IsLineTold : (Text → Option (List ℕ)) → Asked → (line text : List ℕ) → ℕ → Type 0
IsLineTold known whole line text status =
    IsNoTraceTold line text status ⊎ IsNamedTold known whole line text status

-- what is told was written, with a line feed
abbrev pub Writes : Option (List ℕ) → Option (List ℕ) → (List ℕ → Type 0) → Type 0
Writes old new P = (text : List ℕ) × Appends old new (text ⋯ line_feed) × P text

-- ---- the whole list
-- a line, what is told of it, and the status of its trace
pub record Told : Type 0 where
  pub line : List ℕ
  pub text : List ℕ
  pub status : ℕ

-- from the gravest on: 3, 2, 1, 4 and 0
abbrev pub gravity : ℕ → ℕ
gravity s =
    if s == 3 then 4
    else if s == 2 then 3
    else if s == 1 then 2
    else if s == 4 then 1
    else 0

abbrev pub graver : ℕ → ℕ → ℕ
graver s t = if nat_lt (gravity s) (gravity t) then t else s

abbrev pub gravest : List Told → ℕ
gravest tolds = fold graver 0 (map (λ t. t.status) tolds)

-- the status of a list by that; one without a trace is not complete
abbrev pub list_status : (is_empty complete : Bool) → ℕ → ℕ
list_status is_empty complete status = if is_empty && complete then 4 else status

-- all that is written
abbrev pub texts_of : List Told → List ℕ
texts_of tolds = concat (map (λ t. t.text ⋯ line_feed) tolds)

-- each line of the list was told, by its bytes where they are known, and this is the gravest status
pub record AreTold (known : Text → Option (List ℕ)) (whole : Asked) (bytes old new : Option (List ℕ)) (status : ℕ)
    : Type 0 where
  pub tolds : List Told
  pub are_told : All (λ t. IsLineTold known whole t.line t.text t.status) tolds
  pub lines : IfSome bytes (λ bs. lines bs ≡ map (λ t. t.line) tolds)
  pub appends : Appends old new (texts_of tolds)
  pub status_is : status ≡ list_status (length tolds == 0) whole.complete (gravest tolds)

-- the bytes of the list of this name: those of standard input, which is -, are not known
abbrev pub list_bytes : (Text → Option (List ℕ)) → Text → Option (List ℕ)
list_bytes known name = if bytes_eq name (codes "-") then None else known name

-- the list that is asked for was told
abbrev pub IsListTold : (Text → Option (List ℕ)) → Asked → (old new : Option (List ℕ)) → ℕ → Type 0
IsListTold known whole old new status =
    (name : String Global) × (whole.list_file ≡ Some name)
    × AreTold known whole (list_bytes known (string_bytes name)) old new status
