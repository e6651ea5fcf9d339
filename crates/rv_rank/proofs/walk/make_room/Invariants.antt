use Rattle.rv_rank.proofs.RowTables.{IsRoomy}
use Rattle.rv_rank.proofs.walk.make_room.Given as goal

abbrev pub invariant-loop-place : goal.invariant-loop-place
invariant-loop-place l = IsRoomy l.initial.nodes l.nodes l.places l.more l.place-index
