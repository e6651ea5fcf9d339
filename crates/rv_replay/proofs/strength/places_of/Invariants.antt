use Rattle.std.proofs.Common.{◌≡◌, ◌++◌, drop}
use Rattle.rv_replay.specs.Strengths.{places, places_from}
use Rattle.rv_replay.proofs.strength.places_of.Given as goal

-- those so far, and those behind
abbrev pub invariant-loop-n : goal.invariant-loop-n
invariant-loop-n l = l.places.items ++ places_from l.n (drop l.n l.log) ≡ places l.log
