-- What the lines of a file say of rows.
use Rattle.std.specs.Prelude.{ℕ, ◌≡◌, ◌⊎◌, ◌&&◌, ◌||◌, ◌==◌, ◌+◌, Bool, false, List, [], ◌∷◌, Option, Some, None}
use Rattle.std.specs.Prelude.{Result, Ok, Err}
use Rattle.std.specs.Prelude.{⊤, bytes_eq, codes, if◌then◌else◌, is_err, length, nat_lt}
use Rattle.std.specs.List.{list_any}
use Rattle.std.specs.Str.{is_utf8}
use Rattle.rv_trace.specs.Numbers.{number}
use Rattle.rv_trace.specs.Row.{Fields, field}
use Rattle.rv_trace.specs.declared.fault.FaultKind.{FaultKind}
use Rattle.rv_explain.specs.RowTexts.{Said}
use Rattle.rv_where.specs.declared.fault.LineFault.{LineFault}
use Rattle.rv_where.specs.declared.fault.LineFault.TheVariants as line
use Rattle.rv_where.specs.declared.fault.WhereFault.{WhereFault}

-- ---- lines
abbrev pub is_header : Fields → Bool
is_header fields =
    (length fields == 3) && bytes_eq (field fields 0) (codes "source") && bytes_eq (field fields 1) (codes "row")
    && bytes_eq (field fields 2) (codes "text")

-- a byte that is a control character
abbrev pub is_control : ℕ → Bool
is_control b = nat_lt b 32 || (b == 127)

-- UTF-8 without control characters
abbrev pub is_text : List ℕ → Bool
is_text bytes = if list_any is_control bytes then false else is_utf8 bytes

-- what is wrong with a line, if anything: the first of these from the left
unfoldable pub line_fault : Fields → Option LineFault
line_fault fields =
    if length fields == 3 then
    (if is_err (number 7 (field fields 0)) then Some line.Source
    else if is_err (number 4294967295 (field fields 1)) then Some line.Row
    else if is_text (field fields 2) then None
    else Some line.Text)
    else Some line.Fields

abbrev pub is_number : Result ℕ FaultKind → ℕ → Bool
is_number (Ok m) n = m == n
is_number (Err k) n = false

-- whether a line is of this row of this source
abbrev pub names_row : Fields → ℕ → ℕ → Bool
names_row fields source row =
    is_number (number 7 (field fields 0)) source && is_number (number 4294967295 (field fields 1)) row

-- what is said of rows, with one line more
abbrev pub with_line : Said → Fields → Said
with_line said fields source row = if names_row fields source row then Some (field fields 2) else said source row

-- ---- files
abbrev pub nothing : Said
nothing source row = None

-- what is said with these lines, each in place of an earlier one of its row
unfoldable pub said_from : Said → List Fields → Said
said_from said [] source row = said source row
said_from said (l ∷ lines) source row = said_from (with_line said l) lines source row

abbrev pub fault_at : LineFault → ℕ → WhereFault
fault_at k n = record { kind = k; line = n }

-- what is wrong with line n, if anything: there may be 524,288
abbrev pub fault_of_line : ℕ → Fields → Option LineFault
fault_of_line n fields = if nat_lt 524288 n then Some line.TooLong else line_fault fields

abbrev pub fault_or : Option LineFault → ℕ → Option WhereFault → Option WhereFault
fault_or (Some k) n behind = Some (fault_at k n)
fault_or None n behind = behind

-- the first fault from line n on
unfoldable pub fault_from : ℕ → List Fields → Option WhereFault
fault_from n [] = None
fault_from n (l ∷ lines) = fault_or (fault_of_line n l) n (fault_from (n + 1) lines)

-- what the records of a file say of rows, the header first
abbrev pub said_in : List Fields → Said
said_in [] = nothing
said_in (h ∷ lines) = said_from nothing lines

-- their first fault
abbrev pub fault_in : List Fields → Option WhereFault
fault_in [] = Some (fault_at line.Header 0)
fault_in (h ∷ lines) = if is_header h then fault_from 1 lines else Some (fault_at line.Header 0)

-- ---- answers
-- a fault of reading or of memory
abbrev pub IsOutside : LineFault → Type 0
IsOutside k = (k ≡ line.Read) ⊎ (k ≡ line.NoMemory)

-- the text of a line was taken
pub record IsTaken (old : Said) (fields : Fields) (new : Said) : Type 0 where
  pub good : line_fault fields ≡ None
  pub said : (source row : ℕ) → new source row ≡ with_line old fields source row

-- a line has this fault, or memory ran out
abbrev pub IsLineFault : Fields → LineFault → Type 0
IsLineFault fields k = (line_fault fields ≡ Some k) ⊎ (k ≡ line.NoMemory)

-- of lines that are known, from the first one behind the header on: they have no fault, and these are
-- the texts with them
pub record AreWith (old : Said) (lines : List Fields) (new : Said) : Type 0 where
  pub good : fault_from 1 lines ≡ None
  pub texts : (source row : ℕ) → new source row ≡ said_from old lines source row

abbrev pub AreTextsFrom : Said → Option (List Fields) → Said → Type 0
AreTextsFrom old None new = ⊤
AreTextsFrom old (Some lines) new = AreWith old lines new

-- this is the first fault of them, or reading or memory failed
abbrev pub IsFaultFrom : Option (List Fields) → WhereFault → Type 0
IsFaultFrom None f = ⊤
IsFaultFrom (Some lines) f = (fault_from 1 lines ≡ Some f) ⊎ IsOutside f.kind

-- of records that are known: they have no fault, and these are the texts
pub record AreTexts (records : List Fields) (said : Said) : Type 0 where
  pub good : fault_in records ≡ None
  pub texts : (source row : ℕ) → said source row ≡ said_in records source row

abbrev pub AreTextsOf : Option (List Fields) → Said → Type 0
AreTextsOf None said = ⊤
AreTextsOf (Some records) said = AreTexts records said

-- this is their first fault, or reading or memory failed
abbrev pub IsFaultOf : Option (List Fields) → WhereFault → Type 0
IsFaultOf None f = ⊤
IsFaultOf (Some records) f = (fault_in records ≡ Some f) ⊎ IsOutside f.kind
