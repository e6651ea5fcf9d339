use Rattle.std.proofs.Common.{◌≡◌, false}
use Rattle.rv_trace.proofs.Skipped.{AreBehind}
use Rattle.rv_trace.proofs.column.reach.Given as goal

abbrev pub invariant-records : goal.invariant-records
invariant-records g l = (l.rows.stopped ≡ false) × AreBehind l.counter l.initial.rows.left l.rows.left
