-- What a record says: an event, or its first fault from the left.
use Rattle.std.specs.Prelude.{ℕ, ◌==◌, List, [], length, Result, Ok, Err, if◌then◌else◌, unwrap_or}
use Rattle.csv.specs.Records.{field_at}
use Rattle.rv_event.specs.declared.event.Event.{Event}
use Rattle.rv_trace.specs.declared.dialect.Dialect.{Dialect}
use Rattle.rv_trace.specs.declared.fault.FaultKind.{FaultKind}
use Rattle.rv_trace.specs.declared.fault.FaultKind.TheVariants as fault
use Rattle.rv_trace.specs.Dependencies.{dependencies}
use Rattle.rv_trace.specs.Numbers.{number, value}
use Rattle.rv_trace.specs.Operations.{annotated, columns_of, mnemonic}
use Rattle.rv_trace.specs.Steps.{◌>>=◌}

-- the fields of a record, each as its bytes
abbrev pub Fields : Type 0
Fields = List (List ℕ)

-- the field at a place, blank where there is none
abbrev pub field : Fields → ℕ → List ℕ
field fields i = unwrap_or (field_at fields i) []

-- what eight fields say
unfoldable pub eight : Dialect → Fields → Result Event FaultKind
eight d fields = do
  hart ← number 255 (field fields 0)
  seq ← number 4294967295 (field fields 1)
  name ← mnemonic d (field fields 2)
  word ← value (columns_of name).word (field fields 3)
  read ← value (columns_of name).read (field fields 4)
  wrote ← value (columns_of name).wrote (field fields 5)
  o ← annotated name (field fields 6)
  deps ← dependencies (columns_of name) (field fields 7)
  Ok (record {
    id = record { hart = hart; seq = seq };
    op = o.0;
    word = word;
    read = read;
    wrote = wrote;
    acquire = o.1;
    release = o.2;
    deps = deps;
  })

unfoldable pub event_of : Dialect → Fields → Result Event FaultKind
event_of d fields = if length fields == 8 then eight d fields else Err fault.Fields
