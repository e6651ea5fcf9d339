-- The steps so far.
use Rattle.std.proofs.Common.{◌≡◌, map, take}
use Rattle.rv_watch.specs.Names.{step_named}
use Rattle.rv_watch.proofs.naming.Naming.steps.Given as goal

abbrev pub invariant-loop-step : goal.invariant-loop-step
invariant-loop-step l = l.told.items ≡ map (step_named l.self.firsts.now l.self.refused) (take l.step-index l.steps)
