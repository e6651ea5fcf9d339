-- What the bytes of a source say: its events, how it ends, and what its end record says.
use Rattle.std.specs.Prelude.{ℕ, ◌+◌, ◌&&◌, ◌==◌, List, [], ◌∷◌, length, Bool, Option, Some, None, Result, Ok, Err}
use Rattle.std.specs.Prelude.{nat_lt, if◌then◌else◌, codes, bytes_eq}
use Rattle.csv.specs.Reading.{default_config, records, records_from, strip_bom}
use Rattle.csv.specs.declared.parser.State.{State}
use Rattle.rv_event.specs.declared.event.Event.{Event}
use Rattle.rv_trace.specs.declared.dialect.Dialect.{Dialect}
use Rattle.rv_trace.specs.declared.fault.FaultKind.{FaultKind}
use Rattle.rv_trace.specs.declared.fault.FaultKind.TheVariants as fault
use Rattle.rv_trace.specs.declared.fault.TraceFault.{TraceFault}
use Rattle.rv_trace.specs.Dialects.{plain}
use Rattle.rv_trace.specs.Numbers.{number}
use Rattle.rv_trace.specs.Row.{Fields, event_of, field}

-- events, and then the end: None where it is whole; and the number of rows that an end record says,
-- where one stands last
pub record Stream : Type 0 where
  pub events : List Event
  pub end : Option TraceFault
  pub said : Option ℕ

-- the whole end, where so much is said
abbrev pub whole : Option ℕ → Stream
whole said = record { events = []; end = None; said = said }

abbrev pub fault_at : FaultKind → ℕ → TraceFault
fault_at k n = record { kind = k; row = n }

abbrev pub fails_at : FaultKind → ℕ → Stream
fails_at k n = record { events = []; end = Some (fault_at k n); said = None }

abbrev pub is_header : Fields → Bool
is_header fields =
    (length fields == 8)
    && bytes_eq (field fields 0) (codes "hart") && bytes_eq (field fields 1) (codes "seq")
    && bytes_eq (field fields 2) (codes "op") && bytes_eq (field fields 3) (codes "word")
    && bytes_eq (field fields 4) (codes "read") && bytes_eq (field fields 5) (codes "wrote")
    && bytes_eq (field fields 6) (codes "ann") && bytes_eq (field fields 7) (codes "deps")

-- the number that an end record says: end, and a number behind it
abbrev pub if_number : Result ℕ FaultKind → Option ℕ
if_number (Ok n) = Some n
if_number (Err k) = None

unfoldable pub end_of : Fields → Option ℕ
end_of fields =
    if (length fields == 2) && bytes_eq (field fields 0) (codes "end")
    then if_number (number 4294967295 (field fields 1)) else None

-- a dialect may have none
abbrev pub end_in : Dialect → Fields → Option ℕ
end_in d fields = if d.end_record then end_of fields else None

-- and it is one only where it stands last
abbrev pub last_says : Dialect → Fields → List Fields → Option ℕ
last_says d fields [] = end_in d fields
last_says d fields (r ∷ rs) = None

-- what data row n says: there may be 65,536
abbrev pub row_says : Dialect → ℕ → Fields → Result Event FaultKind
row_says d n fields = if nat_lt 65536 n then Err fault.TooLong else event_of d fields

abbrev pub after_row : ℕ → Result Event FaultKind → Stream → Stream
after_row n (Ok e) s = record { events = e ∷ s.events; end = s.end; said = s.said }
after_row n (Err k) s = fails_at k n

-- an end record is no row
abbrev pub unless_end : Option ℕ → Stream → Stream
unless_end (Some n) s = whole (Some n)
unless_end None s = s

-- the rows from data row n on
unfoldable pub rows_say : Dialect → ℕ → List Fields → Stream
rows_say d n [] = whole None
rows_say d n (r ∷ rs) =
    unless_end (last_says d r rs) (after_row n (row_says d n r) (rows_say d (n + 1) rs))

-- a header and rows
unfoldable pub records_say : Dialect → List Fields → Stream
records_say d [] = fails_at fault.Header 0
records_say d (h ∷ rs) = if is_header h then rows_say d 1 rs else fails_at fault.Header 0

-- the records of a text, and those from a state in it
abbrev pub text_records : List ℕ → List Fields
text_records bytes = records default_config (strip_bom bytes)

-- what a text says to who reads this dialect
abbrev pub bytes_say : Dialect → List ℕ → Stream
bytes_say d bytes = records_say d (text_records bytes)

-- of the nine operations alone
abbrev pub source_says : List ℕ → Stream
source_says = bytes_say plain

unfoldable pub rest_of : State → List ℕ → List Fields
rest_of s xs = records_from default_config (length xs + 1) s xs
