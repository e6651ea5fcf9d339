-- The faults of a source: their numbers, and where each comes from.
use Rattle.std.specs.Prelude.{◌≡◌, ◌≢◌, ◌⊎◌, ℕ, Bool, true, false}
use Rattle.rv_trace.specs.declared.fault.FaultKind.{FaultKind}
use Rattle.rv_trace.specs.declared.fault.FaultKind.TheVariants as fault
use Rattle.rv_trace.specs.declared.fault.TraceFault.{TraceFault}

abbrev pub fault_number : FaultKind → ℕ
fault_number fault.Header = 1
fault_number fault.Fields = 2
fault_number fault.Number = 3
fault_number fault.Op = 4
fault_number fault.Missing = 5
fault_number fault.NotBlank = 6
fault_number fault.Annotation = 7
fault_number fault.Dependency = 8
fault_number fault.TooManyDeps = 9
fault_number fault.TooLong = 10
fault_number fault.Csv = 11
fault_number fault.Read = 12
fault_number fault.NoMemory = 13

-- a fault that the text of a source has, whoever reads it
abbrev pub is_of_text : FaultKind → Bool
is_of_text fault.Header = true
is_of_text fault.Fields = true
is_of_text fault.Number = true
is_of_text fault.Op = true
is_of_text fault.Missing = true
is_of_text fault.NotBlank = true
is_of_text fault.Annotation = true
is_of_text fault.Dependency = true
is_of_text fault.TooManyDeps = true
is_of_text fault.TooLong = true
is_of_text fault.Csv = false
is_of_text fault.Read = false
is_of_text fault.NoMemory = false

-- a fault of reading or of memory
abbrev pub IsOutside : FaultKind → Type 0
IsOutside k = (k ≡ fault.Read) ⊎ (k ≡ fault.NoMemory)

-- a fault of the text, or out of memory
abbrev pub IsOfTextOrMemory : FaultKind → Type 0
IsOfTextOrMemory k = (is_of_text k ≡ true) ⊎ (k ≡ fault.NoMemory)

-- the CSV reader told the records apart
abbrev pub NeverCsv : TraceFault → Type 0
NeverCsv f = f.kind ≢ fault.Csv

-- the fault of a failed read: the reader's where it refused its last read, else memory's
abbrev pub read_fault : Bool → FaultKind
read_fault true = fault.Read
read_fault false = fault.NoMemory
