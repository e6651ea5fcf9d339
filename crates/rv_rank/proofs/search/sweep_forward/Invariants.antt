use Rattle.rv_rank.proofs.Common.{◌≡◌, ◌≤◌, ◌-◌, length, take, filter, AreRanks, IsSearched, IsSameGraph, has_slot}
use Rattle.rv_rank.proofs.search.sweep_forward.Given as goal

abbrev pub invariant-ranks : goal.invariant-ranks
invariant-ranks l = record {
  searched : IsSearched l.initial.walk.edges l.order.ranks l.succs l.low (has_slot l.order.ranks l.slots) l.rank;
  visits : l.walk.visits ≡ filter (has_slot l.order.ranks l.slots) (take l.rank l.order.nodes);
  same : IsSameGraph l.initial.walk l.walk;
  ranks : AreRanks l.order.ranks l.slots;
  room : length l.slots ≡ length l.initial.slots;
  within : l.rank ≤ length l.order.ranks;
}

abbrev pub decreases-ranks : goal.decreases-ranks
decreases-ranks l = length l.order.ranks - l.rank
