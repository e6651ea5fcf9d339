-- The field of a row that has a fault.
use Rattle.std.specs.Prelude.{ℕ, ◌≡◌, ◌==◌, List, Bool, true, false, Option, Some, None, Result, Ok, Err, ⊤}
use Rattle.std.specs.Prelude.{codes, if◌then◌else◌, is_err, length, slice_get}
use Rattle.csv.specs.Records.{Row, fields_of}
use Rattle.rv_trace.specs.Dependencies.{dependencies}
use Rattle.rv_trace.specs.Numbers.{number, value}
use Rattle.rv_trace.specs.Operations.{annotated, columns_of, mnemonic}
use Rattle.rv_trace.specs.Row.{Fields, field}
use Rattle.rv_trace.specs.declared.column.Column.{Column}
use Rattle.rv_trace.specs.declared.column.Column.TheVariants.{Hart, Seq, Op, Word, Read, Wrote, Ann, Deps}
use Rattle.rv_trace.specs.declared.column.FaultyField.{FaultyField}
use Rattle.rv_trace.specs.declared.dialect.Dialect.{Dialect}
use Rattle.rv_trace.specs.declared.fault.FaultKind.{FaultKind}
use Rattle.rv_trace.specs.declared.operation.Mnemonic.{Mnemonic}

-- ---- columns
-- a column by its name in the header
abbrev pub column_text : Column → List ℕ
column_text Hart = codes "hart"
column_text Seq = codes "seq"
column_text Op = codes "op"
column_text Word = codes "word"
column_text Read = codes "read"
column_text Wrote = codes "wrote"
column_text Ann = codes "ann"
column_text Deps = codes "deps"

-- and its place
abbrev pub place_of : Column → ℕ
place_of Hart = 0
place_of Seq = 1
place_of Op = 2
place_of Word = 3
place_of Read = 4
place_of Wrote = 5
place_of Ann = 6
place_of Deps = 7

-- ---- the column at fault
-- of a row with this operation, from the word on
unfoldable pub column_for : Mnemonic → Fields → Option Column
column_for name fields =
    if is_err (value (columns_of name).word (field fields 3)) then Some Word
    else if is_err (value (columns_of name).read (field fields 4)) then Some Read
    else if is_err (value (columns_of name).wrote (field fields 5)) then Some Wrote
    else if is_err (annotated name (field fields 6)) then Some Ann
    else if is_err (dependencies (columns_of name) (field fields 7)) then Some Deps
    else None

-- of a row whose operation is this, if it is one
abbrev pub column_behind : Result Mnemonic FaultKind → Fields → Option Column
column_behind (Ok name) fields = column_for name fields
column_behind (Err k) fields = Some Op

-- of a row: the first from the left whose field has a fault
unfoldable pub column_at_fault : Dialect → Fields → Option Column
column_at_fault d fields =
    if length fields == 8 then
    (if is_err (number 255 (field fields 0)) then Some Hart
    else if is_err (number 4294967295 (field fields 1)) then Some Seq
    else column_behind (mnemonic d (field fields 2)) fields)
    else None

-- ---- the field at fault
-- of a row: the first column at fault, with its field
abbrev pub IsFieldAtFault : Dialect → Fields → Option FaultyField → Type 0
IsFieldAtFault d fields None = column_at_fault d fields ≡ None
IsFieldAtFault d fields (Some f) =
    (column_at_fault d fields ≡ Some f.column) × (f.text.items ≡ field fields (place_of f.column))

-- of the row at a place of the records, if it is there
abbrev pub IsFieldAt : Dialect → Option Fields → Option FaultyField → Type 0
IsFieldAt d None found = found ≡ None
IsFieldAt d (Some fields) found = IsFieldAtFault d fields found

-- of a data row of a source, by its records where they are known; the header is record 0
abbrev pub IsFieldInRow : Dialect → ℕ → Option (List Fields) → Option FaultyField → Type 0
IsFieldInRow d row None found = ⊤
IsFieldInRow d row (Some records) found = IsFieldAt d (slice_get records row) found

-- ---- records
-- whether there is a record at a place of known ones, and which
abbrev pub IsRecordAt : ℕ → Option (List Fields) → Bool → Row → Type 0
IsRecordAt place None found row = ⊤
IsRecordAt place (Some records) true row = slice_get records place ≡ Some (fields_of row)
IsRecordAt place (Some records) false row = slice_get records place ≡ None
