use Rattle.std.specs.Prelude.{◌≡◌, ◌<◌, ℕ, get_or}
use Rattle.rv_trace.specs.declared.fault.TraceFault.{TraceFault}
use Rattle.rv_run.specs.declared.feeding.Fed.{Fed}
use Rattle.rv_run.specs.declared.feeding.FeedEnd.TheVariants.{Fault}
use Rattle.rv_run.proofs.judging.first_fault.Given as goal

-- none of the sources so far met a fault
abbrev pub invariant-loop-i : goal.invariant-loop-i
invariant-loop-i l = (j : ℕ) (f : Fed) (other : TraceFault) → j < l.i → (get_or l.fed j f).end ≡ Fault other → ⊥
