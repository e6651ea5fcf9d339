-- How the program comes to its end: which of its steps each ending is of.
use Rattle.std.specs.Prelude.{◌≡◌, ◌≢◌, ◌⊎◌, ℕ, List, [], ◌∷◌, Option, None, Ok, Err, map, option_map}
use Rattle.std.specs.Prelude.{String, string_bytes, IfSome, IsSome, IsTrue, ⊤, true, false, if◌then◌else◌}
use Rattle.std.specs.Global.{Global}
use Rattle.std.specs.List.{Contains}
use Rattle.clap.specs.Words.{Text}
use Rattle.rv_trace.specs.Source.{Stream, bytes_say}
use Rattle.rv_run.specs.Completeness.{Lacks}
use Rattle.rv_replay.specs.Replays.{IsAllowed}
use Rattle.rv_run.specs.Sources.{AreCovered, IsTrueOf, IsFaultAmong}
use Rattle.rv_run.specs.Strengths.{AreTested, IsToldWhere}
use Rattle.rv_run.specs.declared.judging.Judged.{Judged}
use Rattle.rv_run.specs.declared.fault.RunFault.TheVariants as fault
use Rattle.rv_cli.specs.Answers.{AnswersTo}
use Rattle.rv_cli.specs.Asked.{IsInRange}
use Rattle.rv_cli.specs.declared.request.Asked.{Asked}
use Rattle.rv_cli.specs.declared.request.WordsFault.TheVariants as words
use Rattle.rv_coverage_report.specs.declared.text.Extent.{Extent}
use Rattle.rv_coverage_report.specs.declared.text.Extent.TheVariants.{All, Met}
use Rattle.rvmon.specs.Backings.{IsBacking, covering_asked, dialect_asked}
use Rattle.rvmon.specs.declared.ending.Ending.{Ending}
use Rattle.rvmon.specs.declared.ending.Ending.TheVariants.{Ran, Failed, Words, NotText, NotOpened}
use Rattle.rvmon.specs.declared.form.Form.{Form}
use Rattle.rvmon.specs.declared.form.Form.TheVariants as form
use Rattle.rvmon.specs.declared.work.Work.{Work}
use Rattle.rvmon.specs.declared.work.Work.TheVariants.{Ended, Many}

-- the words cannot be had: they are not UTF-8, or memory was refused
abbrev pub IsWordless : Ending → Type 0
IsWordless (Ran j) = ⊥
IsWordless (Failed f) = ⊥
IsWordless (Words f) = f ≡ words.NoMemory
IsWordless NotText = ⊤
IsWordless (NotOpened name) = ⊥

-- the file of this name does not open, or memory was refused
abbrev pub IsUnopenedFile : Text → Ending → Type 0
IsUnopenedFile name (Ran j) = ⊥
IsUnopenedFile name (Failed f) = f ≡ fault.NoMemory
IsUnopenedFile name (Words f) = ⊥
IsUnopenedFile name NotText = ⊥
IsUnopenedFile name (NotOpened other) = string_bytes other ≡ name

-- one of the files does not open, or memory was refused
abbrev pub IsUnopened : List Text → Ending → Type 0
IsUnopened names (Ran j) = ⊥
IsUnopened names (Failed f) = f ≡ fault.NoMemory
IsUnopened names (Words f) = ⊥
IsUnopened names NotText = ⊥
IsUnopened names (NotOpened name) = Contains names (string_bytes name)

-- the bytes of the sources that are asked for: those of each file by its name; of standard input,
-- which is the source where there is no file, they are not known
abbrev pub bytes_asked : (Text → Option (List ℕ)) → List (String Global) → List (Option (List ℕ))
bytes_asked known [] = None ∷ []
bytes_asked known (name ∷ names) = map (λ n. known (string_bytes n)) (name ∷ names)

-- what they say
abbrev pub streams_asked : (Text → Option (List ℕ)) → Asked → List (Option Stream)
streams_asked known asked = map (option_map (bytes_say (dialect_asked asked))) (bytes_asked known asked.files.items)

-- as of the files of a system, of whose bytes nothing is known
abbrev pub nothing_known : Text → Option (List ℕ)
nothing_known name = None

-- What a run of a request comes to: its outcome is true of the sources. Where they are allowed, it is
-- told what they have exercised and how much their loads test just where that is asked for, and what
-- the run lacks where it is to be complete.
pub record IsJudgedOf (asked : Asked) (streams : List (Option Stream)) (j : Judged) : Type 0 where
  pub outcome : IsTrueOf asked.model streams j.outcome
  pub covered : IfSome j.coverage (AreCovered asked.model streams)
  pub counted : IsTrue (covering_asked asked) → IsAllowed j.outcome → IsSome j.coverage
  pub only : IsSome j.coverage → IsTrue (covering_asked asked) × IsAllowed j.outcome
  pub lacks : IsTrue asked.complete → IsAllowed j.outcome → Lacks streams j.missing
  pub complete : IsSome j.missing → IsTrue asked.complete × IsAllowed j.outcome
  pub strength : IfSome j.strength (AreTested asked.model streams)
  pub tested : IsToldWhere asked.strength j.outcome j.strength

-- the ending of a request: a file does not open, the sources that it names have no outcome, or this
-- is theirs; its numbers are never out of range
abbrev pub EndsAsked : (Text → Option (List ℕ)) → Asked → Ending → Type 0
EndsAsked known asked (Ran j) = IsJudgedOf asked (streams_asked known asked) j
EndsAsked known asked (Failed f) = (f ≢ fault.Settings) × IsFaultAmong (streams_asked known asked) f
EndsAsked known asked (Words f) = ⊥
EndsAsked known asked NotText = ⊥
EndsAsked known asked (NotOpened name) = Contains (map string_bytes asked.files.items) (string_bytes name)

-- an ending of sources: of neither words nor a program
abbrev pub IsOfSources : Ending → Type 0
IsOfSources (Ran j) = ⊤
IsOfSources (Failed f) = ⊤
IsOfSources (Words f) = ⊥
IsOfSources NotText = ⊥
IsOfSources (NotOpened name) = ⊤

-- all is told that was counted where that is asked for
abbrev pub extent_asked : Asked → Extent
extent_asked asked = if asked.coverage then All else Met

-- the form that is asked for: JSON before a picture, and a picture before an explanation; what is
-- explained or drawn has what is known of the sources
abbrev pub IsFormAsked : (Text → Option (List ℕ)) → Asked → Ending → Form → Type 0
IsFormAsked known asked e form.Text =
    (asked.json ≡ false) × (asked.svg ≡ false) × (asked.explain ≡ false) × (asked.coverage ≡ false)
IsFormAsked known asked e form.Covered =
    (asked.json ≡ false) × (asked.svg ≡ false) × (asked.explain ≡ false) × (asked.coverage ≡ true)
IsFormAsked known asked e form.Json = (asked.json ≡ true) × (asked.explain ≡ false)
IsFormAsked known asked e (form.JsonExplained b) =
    (asked.json ≡ true) × (asked.explain ≡ true) × IsBacking known asked e b
IsFormAsked known asked e (form.Picture b) = (asked.json ≡ false) × (asked.svg ≡ true) × IsBacking known asked e b
IsFormAsked known asked e (form.Explained b extent) =
    (asked.json ≡ false) × (asked.svg ≡ false) × (asked.explain ≡ true) × (extent ≡ extent_asked asked)
    × IsBacking known asked e b

-- the request of these words ends so, and is printed in this form
abbrev pub EndsRequest : (Text → Option (List ℕ)) → List Text → Ending → Form → Type 0
EndsRequest known texts e form =
    (asked : Asked) × AnswersTo texts (Ok asked) × (asked.list_file ≡ None) × IsFormAsked known asked e form
    × EndsAsked known asked e

-- the ending of a command line: the words are refused, or their request ends so
abbrev pub EndsBy : (Text → Option (List ℕ)) → List Text → Ending → Form → Type 0
EndsBy known texts (Ran j) form = EndsRequest known texts (Ran j) form
EndsBy known texts (Failed f) form = EndsRequest known texts (Failed f) form
EndsBy known texts (Words f) form = AnswersTo texts (Err f)
EndsBy known texts NotText form = ⊥
EndsBy known texts (NotOpened name) form = EndsRequest known texts (NotOpened name) form

-- the ending of the program: its words cannot be had, or these end so
abbrev pub IsEnd : (Text → Option (List ℕ)) → Ending → Form → Type 0
IsEnd known e form = IsWordless e ⊎ ((texts : List Text) × EndsBy known texts e form)

-- a request for a list of traces
abbrev pub IsForList : Asked → Type 0
IsForList asked = IsInRange asked × IsSome asked.list_file

-- what these words have the program do: it ends so, or judges the traces of a list
abbrev pub IsWorkBy : (Text → Option (List ℕ)) → List Text → Work → Type 0
IsWorkBy known texts (Ended e form) = EndsBy known texts e form
IsWorkBy known texts (Many asked) = IsForList asked × AnswersTo texts (Ok asked)

-- what the program does
abbrev pub IsWork : (Text → Option (List ℕ)) → Work → Type 0
IsWork known (Ended e form) = IsEnd known e form
IsWork known (Many asked) = IsForList asked × ((texts : List Text) × AnswersTo texts (Ok asked))
