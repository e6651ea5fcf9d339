-- The texts that ids, reasons and faults are printed as, byte by byte.
use Rattle.std.specs.Prelude.{ℕ, List, ◌++◌, codes, decimal}
use Rattle.rv_event.specs.declared.event.Id.{Id}
use Rattle.rv_event.specs.declared.reason.Reason.{Reason}
use Rattle.rv_event.specs.declared.reason.Reason.TheVariants as reason
use Rattle.rv_event.specs.declared.fault.Fault.{Fault}
use Rattle.rv_event.specs.declared.fault.Fault.TheVariants as fault

-- One text and then another. It groups to the right, as the parts of a format do.
infixr 20 ◌⋯◌
abbrev pub ◌⋯◌ : List ℕ → List ℕ → List ℕ
xs ⋯ ys = xs ++ ys

-- hH:Q
abbrev pub id_text : Id → List ℕ
id_text i = codes "h" ⋯ decimal i.hart ⋯ codes ":" ⋯ decimal i.seq

abbrev pub reason_text : Reason → List ℕ
reason_text (reason.Preserved k) = codes "rule " ⋯ decimal k
reason_text reason.Coherence = codes "coherence"
reason_text reason.ReadsFrom = codes "reads-from"
reason_text reason.FromRead = codes "from-read"
reason_text reason.AtomicIn = codes "atomic-in"
reason_text reason.AtomicOut = codes "atomic-out"

abbrev pub fault_text : Fault → List ℕ
fault_text fault.Hart = codes "hart"
fault_text (fault.Sequence n) = codes "sequence, expected " ⋯ decimal n
fault_text fault.Dependency = codes "dependency"
fault_text fault.VersionZero = codes "version zero"
fault_text (fault.VersionTaken i) = codes "version taken by " ⋯ id_text i
fault_text fault.NoReservation = codes "no reservation"
fault_text fault.Full = codes "hart full"
fault_text fault.OtherSource = codes "other source"
fault_text fault.TooManyDeps = codes "too many dependencies"

-- the faults' numbers, in their order
abbrev pub fault_number : Fault → ℕ
fault_number fault.Hart = 1
fault_number (fault.Sequence n) = 2
fault_number fault.Dependency = 3
fault_number fault.VersionZero = 4
fault_number (fault.VersionTaken i) = 5
fault_number fault.NoReservation = 6
fault_number fault.Full = 7
fault_number fault.OtherSource = 8
fault_number fault.TooManyDeps = 9
