use Rattle.rv_event.proofs.Common.{take, WellFormed}
use Rattle.rv_event.proofs.faults.is_well_formed.Given as goal

-- what was looked at is well formed
abbrev pub invariant-loop-i : goal.invariant-loop-i
invariant-loop-i l = WellFormed (take l.i l.log)
