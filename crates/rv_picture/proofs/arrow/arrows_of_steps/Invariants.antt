use Rattle.std.proofs.Common.{◌≡◌, map, take}
use Rattle.rv_picture.specs.Arrows.{arrow_of}
use Rattle.rv_picture.proofs.arrow.arrows_of_steps.Given as goal

-- the arrows so far
abbrev pub invariant-steps : goal.invariant-steps
invariant-steps l = l.arrows.items ≡ map (arrow_of l.columns) (take l.step-index l.steps)
