-- The operations: their texts, their columns and their annotations.
use Rattle.std.specs.Prelude.{ℕ, ◌&&◌, ◌==◌, List, length, Bool, true, false, Option, Some, None, Result, Ok, Err}
use Rattle.std.specs.Prelude.{if◌then◌else◌, codes, bytes_eq}
use Rattle.rv_event.specs.declared.event.Op.{Op}
use Rattle.rv_event.specs.declared.event.Op.TheVariants as op
use Rattle.rv_event.specs.declared.event.Set.{Set}
use Rattle.rv_event.specs.declared.event.Set.TheVariants as set
use Rattle.rv_trace.specs.declared.dialect.Dialect.{Dialect}
use Rattle.rv_trace.specs.declared.fault.FaultKind.{FaultKind}
use Rattle.rv_trace.specs.declared.fault.FaultKind.TheVariants as fault
use Rattle.rv_trace.specs.declared.operation.Columns.{Columns}
use Rattle.rv_trace.specs.declared.operation.Mnemonic.{Mnemonic}
use Rattle.rv_trace.specs.declared.operation.Mnemonic.TheVariants as name

unfoldable pub mnemonic : Dialect → List ℕ → Result Mnemonic FaultKind
mnemonic d text =
    if bytes_eq text (codes "L") then Ok name.Load
    else if bytes_eq text (codes "S") then Ok name.Store
    else if bytes_eq text (codes "LR") then Ok name.Lr
    else if bytes_eq text (codes "SC") then Ok name.Sc
    else if bytes_eq text (codes "SF") then Ok name.ScFailed
    else if bytes_eq text (codes "AMO") then Ok name.Amo
    else if bytes_eq text (codes "F") then Ok name.Fence
    else if bytes_eq text (codes "FT") then Ok name.FenceTso
    else if bytes_eq text (codes "BR") then Ok name.Branch
    else if bytes_eq text (codes "I") && d.carriers then Ok name.Carrier
    else Err fault.Op

-- which numbers there are, and which letters a dependency may have
abbrev pub with_columns : (word read wrote : Bool) → (a d c : Bool) → Columns
with_columns word read wrote a d c = record
    { word = word; read = read; wrote = wrote; addr = a; data_of = d; ctrl = c }

--                                   word  read  wrote   a     d     c
abbrev pub columns_of : Mnemonic → Columns
columns_of name.Load = with_columns true true false true false false
columns_of name.Store = with_columns true false true true true false
columns_of name.Lr = with_columns true true false true false false
columns_of name.Sc = with_columns true false true true true false
columns_of name.ScFailed = with_columns true false false true true false
columns_of name.Amo = with_columns true true true true true false
columns_of name.Fence = with_columns false false false false false false
columns_of name.FenceTso = with_columns false false false false false false
columns_of name.Branch = with_columns false false false false false true
columns_of name.Carrier = with_columns false false false false true false

-- an operation, and whether it acquires and releases
abbrev pub Annotated : Type 0
Annotated = Op × Bool × Bool

-- no annotation
abbrev pub bare : Op → List ℕ → Result Annotated FaultKind
bare o text = if length text == 0 then Ok (o, false, false) else Err fault.Annotation

-- A where the operation may acquire, R where it may release, and AR
unfoldable pub ordered : Op → Bool → Bool → List ℕ → Result Annotated FaultKind
ordered o acquires releases text =
    if length text == 0 then Ok (o, false, false)
    else if bytes_eq text (codes "A") && acquires then Ok (o, true, false)
    else if bytes_eq text (codes "R") && releases then Ok (o, false, true)
    else if bytes_eq text (codes "AR") then Ok (o, true, true)
    else Err fault.Annotation

-- the two sets of a fence
unfoldable pub fence_sets : List ℕ → Option (Set × Set)
fence_sets text =
    if bytes_eq text (codes "r-r") then Some (set.R, set.R)
    else if bytes_eq text (codes "r-w") then Some (set.R, set.W)
    else if bytes_eq text (codes "r-rw") then Some (set.R, set.Rw)
    else if bytes_eq text (codes "w-r") then Some (set.W, set.R)
    else if bytes_eq text (codes "w-w") then Some (set.W, set.W)
    else if bytes_eq text (codes "w-rw") then Some (set.W, set.Rw)
    else if bytes_eq text (codes "rw-r") then Some (set.Rw, set.R)
    else if bytes_eq text (codes "rw-w") then Some (set.Rw, set.W)
    else if bytes_eq text (codes "rw-rw") then Some (set.Rw, set.Rw)
    else None

abbrev pub fence : Option (Set × Set) → Result Annotated FaultKind
fence None = Err fault.Annotation
fence (Some p) = Ok (op.Fence p.0 p.1, false, false)

-- the operation with its annotation
abbrev pub annotated : Mnemonic → List ℕ → Result Annotated FaultKind
annotated name.Load text = bare op.Load text
annotated name.Store text = bare op.Store text
annotated name.Lr text = ordered op.Lr true false text
annotated name.Sc text = ordered op.Sc false true text
annotated name.ScFailed text = ordered op.ScFailed false true text
annotated name.Amo text = ordered op.Amo true true text
annotated name.Fence text = fence (fence_sets text)
annotated name.FenceTso text = bare op.FenceTso text
annotated name.Branch text = bare op.Branch text
annotated name.Carrier text = bare op.Carrier text
