-- What a reader of records has left.
use Rattle.std.specs.Prelude.{◌≡◌, ◌∷◌, [], List, ℕ, Bool, true, false, Option, Some, None, option_map, ⊤}
use Rattle.csv.specs.Reading.{Ready, default_config, has_failed, is_flexible, reader_config, reader_trim}
use Rattle.csv.specs.Records.{Row, fields_of}
use Rattle.csv.specs.declared.parser.State.{State}
use Rattle.csv.specs.declared.reader.Reader.{Reader}
use Rattle.csv.specs.declared.reader.Trim.TheVariants as trim
use Rattle.rv_trace.specs.Row.{Fields}
use Rattle.rv_trace.specs.Source.{rest_of}

-- The records that are left, where they are known; whether it has stopped; whether the CSV reader
-- failed, for want of bytes or of memory; whether the reader underneath refused its last read; and
-- the record that was read last.
pub record RowsLeft : Type 0 where
  pub left : Option (List Fields)
  pub stopped : Bool
  pub failed : Bool
  pub refused : Bool
  pub row : Row

abbrev pub rows_left : (stopped failed refused : Bool) → State → Option (List ℕ) → Row → RowsLeft
rows_left stopped failed refused s known row = record {
  left = option_map (rest_of s) known;
  stopped = stopped;
  failed = failed;
  refused = refused;
  row = row;
}

-- a reader that gives each record as it stands, of any length
pub record IsPlain {R : Type 0} (r : Reader R) : Type 0 where
  pub config : reader_config r ≡ default_config
  pub trim : reader_trim r ≡ trim.None
  pub flexible : is_flexible r ≡ true
  pub failed : has_failed r ≡ false
  pub ready : Ready r

-- the next of the records left was read
abbrev pub TakesRow : Option (List Fields) → Option (List Fields) → Row → Type 0
TakesRow None new row = ⊤
TakesRow (Some rs) None row = ⊥
TakesRow (Some rs) (Some ts) row = rs ≡ fields_of row ∷ ts

-- no record is left
abbrev pub NoRow : Option (List Fields) → Type 0
NoRow None = ⊤
NoRow (Some rs) = rs ≡ []
