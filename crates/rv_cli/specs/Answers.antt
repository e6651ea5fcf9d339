-- What is answered to words, by clap's definitions of a simple command.
use Rattle.std.specs.Prelude.{◌≡◌, ◌≢◌, ◌<◌, ⊤, IsSome, List, [], Result, Ok, Err, length}
use Rattle.clap.specs.Words.{App, IsAmong, Row, Text, fault_of, kind_of, matches_of}
use Rattle.clap.specs.declared.error.Error.{Error}
use Rattle.clap.specs.declared.error.kind.ErrorKind.TheVariants.{OutOfMemory}
use Rattle.rv_cli.specs.declared.request.Asked.{Asked}
use Rattle.rv_cli.specs.declared.request.WordsFault.{WordsFault}
use Rattle.rv_cli.specs.declared.request.WordsFault.TheVariants as fault
use Rattle.rv_cli.specs.Asked.{IsForOneTrace, SaysAsked, files_in}
use Rattle.rv_cli.specs.Command.{IsCommand}

-- the parser's error as a fault: out of memory is one of its own
abbrev pub IsFaultOf : Error → WordsFault → Type 0
IsFaultOf e (fault.Parse x) = (x ≡ e) × (kind_of e ≢ OutOfMemory)
IsFaultOf e fault.NoMemory = kind_of e ≡ OutOfMemory
IsFaultOf e fault.TooMany = ⊥
IsFaultOf e fault.BesideList = ⊥

-- more than 8 files are too many
abbrev pub IsFilesFault : List Text → WordsFault → Type 0
IsFilesFault files (fault.Parse e) = ⊥
IsFilesFault files fault.NoMemory = ⊤
IsFilesFault files fault.TooMany = 8 < length files
IsFilesFault files fault.BesideList = ⊥

-- a request names a list, and is for one trace
abbrev pub IsBesideList : List Row → Type 0
IsBesideList rows = (asked : Asked) × SaysAsked rows asked × IsSome asked.list_file × IsForOneTrace asked

-- a request is what the definition finds where it refuses nothing; the parser's error is of a kind
-- by which the definition refuses the words; there are too many files where it refuses nothing and
-- finds more than 8; and a list does not stand alone where it refuses nothing and finds that
abbrev pub AnswersBy : App → List Text → Result Asked WordsFault → Type 0
AnswersBy app words (Ok asked) = (fault_of app words ≡ []) × SaysAsked (matches_of app words) asked
AnswersBy app words (Err (fault.Parse e)) = IsAmong (kind_of e) (fault_of app words)
AnswersBy app words (Err fault.NoMemory) = ⊤
AnswersBy app words (Err fault.TooMany) =
    (fault_of app words ≡ []) × (8 < length (files_in (matches_of app words)))
AnswersBy app words (Err fault.BesideList) = (fault_of app words ≡ []) × IsBesideList (matches_of app words)

-- the same, by the command of the program
abbrev pub AnswersTo : List Text → Result Asked WordsFault → Type 0
AnswersTo words result = (app : App) × IsCommand app × AnswersBy app words result
