use Rattle.std.proofs.Common.{◌≡◌, ◌++◌, take}
use Rattle.rv_explain.specs.Steps.{ids_of_steps}
use Rattle.rv_explain.proofs.step.push_ids_of_steps.Given as goal

abbrev pub invariant-steps : goal.invariant-steps
invariant-steps l = l.ids.items ≡ l.fn.ids.items ++ ids_of_steps (take l.step-index l.steps)
