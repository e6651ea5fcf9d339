use Rattle.rv_rank.proofs.Common.{◌≡◌, length, take, AreRanks, IsJoined, has_slot}
use Rattle.rv_rank.proofs.search.put_ranks.Given as goal

abbrev pub invariant-loop-node : goal.invariant-loop-node
invariant-loop-node l = record {
  joined : IsJoined (has_slot l.order.ranks l.initial.slots) (has_slot l.order.ranks l.slots)
      (take l.node-index l.nodes);
  within : AreRanks l.order.ranks l.slots;
  room : length l.slots ≡ length l.initial.slots;
}
