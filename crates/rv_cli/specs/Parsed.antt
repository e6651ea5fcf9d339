-- What a parse of the program's command gives.
use Rattle.std.specs.Prelude.{◌≡◌, ◌⊎◌, ℕ, List, [], Option, Some, Result, Ok, Err, codes, pos}
use Rattle.clap.specs.Words.{App, HasKind, IsSignedIn, Text, fault_of, first_value, found_of, matches_of, one_text}
use Rattle.clap.specs.Words.{rows_of, without_minus}
use Rattle.clap.specs.declared.error.Error.{Error}
use Rattle.clap.specs.declared.parser.matches.ArgMatches.{ArgMatches}
use Rattle.clap.specs.declared.parser.matches.Found.{Found}
use Rattle.rv_cli.specs.Command.{IsCommand}

-- there is a text, and it says a number of the range; a first hyphen is not read, as in -0
abbrev pub HoldsNumber : ℕ → ℕ → Option Text → Type 0
HoldsNumber low high read =
    (text : Text) × (read ≡ Some (without_minus text)) × IsSignedIn (pos low) (pos high) text

-- there is a text, and it names a model
abbrev pub HoldsModel : Option Text → Type 0
HoldsModel read = (read ≡ Some (codes "rvwmo")) ⊎ (read ≡ Some (codes "tso"))

-- the options with a default have a value that their parser takes
pub record HoldsValues (found : Found) : Type 0 where
  pub workers : HoldsNumber 1 24 (one_text found (codes "workers"))
  pub slots : HoldsNumber 2 16 (one_text found (codes "slots"))
  pub model : HoldsModel (first_value found (codes "model"))

-- the matches are those of the definition, which refuses nothing; and an error is of a kind by
-- which it refuses the words, or says that memory ran out
abbrev pub ParsesBy : App → List Text → Result ArgMatches Error → Type 0
ParsesBy app words (Ok m) =
    (fault_of app words ≡ []) × (rows_of (found_of m) ≡ matches_of app words) × HoldsValues (found_of m)
ParsesBy app words (Err e) = HasKind (fault_of app words) e

-- the same, by the command of the program
abbrev pub ParsesTo : List Text → Result ArgMatches Error → Type 0
ParsesTo words result = (app : App) × IsCommand app × ParsesBy app words result
