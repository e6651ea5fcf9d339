-- The dependencies of a row.
use Rattle.std.specs.Prelude.{ℕ, ◌&&◌, ◌==◌, List, [], ◌∷◌, length, Result, Ok, Err, nat_lt, if◌then◌else◌}
use Rattle.std.specs.List.{slice_split}
use Rattle.rv_event.specs.declared.event.Dep.{Dep}
use Rattle.rv_event.specs.declared.event.DepKind.{DepKind}
use Rattle.rv_event.specs.declared.event.DepKind.TheVariants as kind
use Rattle.rv_trace.specs.declared.fault.FaultKind.{FaultKind}
use Rattle.rv_trace.specs.declared.fault.FaultKind.TheVariants as fault
use Rattle.rv_trace.specs.declared.operation.Columns.{Columns}
use Rattle.rv_trace.specs.Numbers.{number}
use Rattle.rv_trace.specs.Steps.{◌>>=◌}

-- the kind by its letter, a, d or c, where the operation may have it
abbrev pub letter : Columns → ℕ → Result DepKind FaultKind
letter columns b =
    if (b == 97) && columns.addr then Ok kind.Addr
    else if (b == 100) && columns.data_of then Ok kind.DataOf
    else if (b == 99) && columns.ctrl then Ok kind.Ctrl
    else Err fault.Dependency

-- whatever is wrong with its number, the dependency is wrong
abbrev pub in_dependency : Result ℕ FaultKind → Result ℕ FaultKind
in_dependency (Ok n) = Ok n
in_dependency (Err k) = Err fault.Dependency

-- a letter and a number
unfoldable pub dependency : Columns → List ℕ → Result Dep FaultKind
dependency columns [] = Err fault.Dependency
dependency columns (b ∷ digits) = do
  k ← letter columns b
  n ← in_dependency (number 1073741823 digits)
  Ok (record { kind = k; seq = n })

-- each part, and the first that is wrong
unfoldable pub each_dependency : Columns → List (List ℕ) → Result (List Dep) FaultKind
each_dependency columns [] = Ok []
each_dependency columns (p ∷ ps) = do
  d ← dependency columns p
  ds ← each_dependency columns ps
  Ok (d ∷ ds)

-- the parts of a text between its single spaces
abbrev pub parts : List ℕ → List (List ℕ)
parts text = slice_split (λ b. b == 32) text

-- blank, or one to eight parts
unfoldable pub dependencies : Columns → List ℕ → Result (List Dep) FaultKind
dependencies columns text =
    if length text == 0 then Ok []
    else if nat_lt 8 (length (parts text)) then Err fault.TooManyDeps
    else each_dependency columns (parts text)
