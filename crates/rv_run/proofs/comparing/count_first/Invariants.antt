use Rattle.rv_run.proofs.Common.{◌≡◌, ◌≤◌, take, length, given_by}
use Rattle.rv_run.proofs.comparing.count_first.Given as goal

abbrev pub invariant-loop-entry : goal.invariant-loop-entry
invariant-loop-entry l = (l.count ≤ length l.events) ×
    (given_by l.source (take l.entry-index l.log) ≡ take l.count l.events)
