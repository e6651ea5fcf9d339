use Rattle.std.proofs.Common.{take}
use Rattle.rv_cut.specs.Marked.{HasAll}
use Rattle.rv_cut.proofs.reach.places_of.Given as goal

abbrev pub invariant-loop-hart : goal.invariant-loop-hart
invariant-loop-hart l = HasAll (take l.hart-index l.active) l.all
