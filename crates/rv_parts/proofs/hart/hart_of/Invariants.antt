use Rattle.std.proofs.Common.{◌≡◌}
use Rattle.rv_event.specs.Log.{events}
use Rattle.rv_hart.specs.Kept.{IsHartOf}
use Rattle.rv_parts.proofs.hart.hart_of.Given as goal

abbrev pub invariant-loop-step : goal.invariant-loop-step
invariant-loop-step a l = IsHartOf (events l.lone.log.items) l.lone.hart × (l.lone.hart.kept.number ≡ 0)
