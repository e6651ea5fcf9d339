use Rattle.rv_run.proofs.Common.{ℕ, ◌<◌, IsComplete}
use Rattle.rv_run.proofs.desk.Desk.are_complete.Given as goal

abbrev pub invariant-loop-source : goal.invariant-loop-source
invariant-loop-source l = (k : ℕ) → k < l.source → IsComplete l.self k
