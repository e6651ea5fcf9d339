-- What is known of the sources of a request, beside their events.
use Rattle.std.specs.Prelude.{ℕ, ◌≡◌, ◌⊎◌, ◌||◌, Bool, true, false, List, Option, Some, None, String}
use Rattle.std.specs.Prelude.{⊤, option_map}
use Rattle.std.specs.Prelude.{IfSome, slice_get, string_bytes}
use Rattle.std.specs.Global.{Global}
use Rattle.clap.specs.Words.{Text}
use Rattle.rv_trace.specs.Columns.{IsFieldInRow}
use Rattle.rv_trace.specs.Source.{text_records}
use Rattle.rv_trace.specs.declared.column.FaultyField.{FaultyField}
use Rattle.rv_trace.specs.declared.dialect.Dialect.{Dialect}
use Rattle.rv_report.specs.declared.outcome.Outcome.{Outcome}
use Rattle.rv_report.specs.declared.outcome.Outcome.TheVariants as outcome
use Rattle.rv_run.specs.declared.fault.RunFault.{RunFault}
use Rattle.rv_run.specs.declared.fault.RunFault.TheVariants as fault
use Rattle.rv_explain.specs.RowTexts.{Said, said_by}
use Rattle.rv_where.specs.Lines.{AreTextsOf, IsFaultOf}
use Rattle.rv_cli.specs.declared.request.Asked.{Asked}
use Rattle.rvmon.specs.declared.backing.Backing.{Backing}
use Rattle.rvmon.specs.declared.backing.Silence.{Silence}
use Rattle.rvmon.specs.declared.backing.Silence.TheVariants.{Unopened, Fault}
use Rattle.rvmon.specs.declared.ending.Ending.{Ending}
use Rattle.rvmon.specs.declared.ending.Ending.TheVariants.{Ran, Failed, Words, NotText, NotOpened}

-- the dialect of the sources that are asked for
abbrev pub dialect_asked : Asked → Dialect
dialect_asked asked = record { carriers = asked.carriers; end_record = asked.complete }

-- what the sources have exercised is counted for an explanation, and for coverage
abbrev pub covering_asked : Asked → Bool
covering_asked asked = asked.explain || asked.coverage

-- an event was refused
abbrev pub is_refusal_of : Outcome → Bool
is_refusal_of (outcome.Allowed events operations waiting) = false
is_refusal_of (outcome.Forbidden f) = true
is_refusal_of (outcome.Malformed m) = true

abbrev pub is_refusal : Ending → Bool
is_refusal (Ran j) = is_refusal_of j.outcome
is_refusal (Failed f) = false
is_refusal (Words f) = false
is_refusal NotText = false
is_refusal (NotOpened name) = false

-- the field of the row of a source's fault, by the bytes of its file where they are known
abbrev pub IsFieldOfFault : (Text → Option (List ℕ)) → Asked → RunFault → FaultyField → Type 0
IsFieldOfFault known asked (fault.Trace source f) field =
    (name : String Global) × (slice_get asked.files.items source ≡ Some name)
    × IsFieldInRow (dialect_asked asked) f.row (option_map text_records (known (string_bytes name))) (Some field)
IsFieldOfFault known asked fault.NoMemory field = ⊥
IsFieldOfFault known asked fault.Lost field = ⊥
IsFieldOfFault known asked fault.Settings field = ⊥

abbrev pub IsFieldOf : (Text → Option (List ℕ)) → Asked → Ending → FaultyField → Type 0
IsFieldOf known asked (Ran j) field = ⊥
IsFieldOf known asked (Failed f) field = IsFieldOfFault known asked f field
IsFieldOf known asked (Words f) field = ⊥
IsFieldOf known asked NotText field = ⊥
IsFieldOf known asked (NotOpened name) field = ⊥

-- nothing is said of any row
abbrev pub IsNothing : Said → Type 0
IsNothing said = (source row : ℕ) → said source row ≡ None

-- what is said of rows is what the file says that is asked for, by its bytes where they are known
abbrev pub SaysFile : (Text → Option (List ℕ)) → Asked → Said → Type 0
SaysFile known asked said =
    (name : String Global) × (asked.where_file ≡ Some name)
    × AreTextsOf (option_map text_records (known (string_bytes name))) said

-- why the file of this name says nothing: it has this first fault, by its bytes where they are known, or
-- is not to be had
abbrev pub IsSilenceOf : (Text → Option (List ℕ)) → Text → Silence → Type 0
IsSilenceOf known name Unopened = ⊤
IsSilenceOf known name (Fault f) = IsFaultOf (option_map text_records (known name)) f

-- the file that is asked for says nothing, for this reason
abbrev pub IsSilent : (Text → Option (List ℕ)) → Asked → Option Silence → Type 0
IsSilent known asked None = ⊥
IsSilent known asked (Some silence) =
    (name : String Global) × (asked.where_file ≡ Some name) × IsSilenceOf known (string_bytes name) silence

-- nothing is said only where no file is asked for, no event was refused, or the file says nothing
abbrev pub HasTexts : (Text → Option (List ℕ)) → Asked → Ending → Said → Option Silence → Type 0
HasTexts known asked e said silence =
    (IsNothing said × ((asked.where_file ≡ None) ⊎ ((is_refusal e ≡ false) ⊎ IsSilent known asked silence)))
    ⊎ SaysFile known asked said

-- the names of the files, what is said of rows, and the field of a fault
pub record IsBacking (known : Text → Option (List ℕ)) (asked : Asked) (e : Ending) (b : Backing) : Type 0 where
  pub names : b.names.items ≡ asked.files.items
  pub texts : HasTexts known asked e (said_by b.texts) b.silence
  pub field : IfSome b.field (IsFieldOf known asked e)
