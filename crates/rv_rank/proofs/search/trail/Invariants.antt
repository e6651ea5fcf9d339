use Rattle.rv_rank.proofs.Common.{◌+◌, ◌*◌, ◌<◌, get_or, length, IsSameGraph, OnlyAhead, has_slot}
use Rattle.rv_rank.proofs.Trail.{IsWayBack}
use Rattle.rv_rank.proofs.search.trail.Given as goal

abbrev pub invariant-loop-walk : goal.invariant-loop-walk
invariant-loop-walk l = record {
  way : IsWayBack l.initial.walk.edges (has_slot l.order.ranks l.slots) l.end l.node l.path.items;
  only : OnlyAhead l.initial.walk.edges l.order.ranks l.succs l.walk.visits;
  same : IsSameGraph l.initial.walk l.walk;
  room : length l.walk.visits + get_or l.order.ranks l.node 0 < 2 * length l.order.ranks;
}

abbrev pub decreases-loop-walk : goal.decreases-loop-walk
decreases-loop-walk l = get_or l.order.ranks l.node 0
