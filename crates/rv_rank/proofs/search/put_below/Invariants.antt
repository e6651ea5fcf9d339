use Rattle.rv_rank.proofs.Common.{◌≡◌, ◌≤◌, length, take, has_bit, AreBelow, IsJoined}
use Rattle.rv_rank.proofs.search.put_below.Given as goal

abbrev pub invariant-loop-node : goal.invariant-loop-node
invariant-loop-node l = record {
  joined : IsJoined (has_bit l.initial.set) (has_bit l.set) (take l.node-index l.nodes);
  room : length l.set ≡ length l.initial.set;
  below : AreBelow l.order.ranks l.set l.top;
  higher : l.initial.top ≤ l.top;
  within : l.top ≤ length l.order.ranks;
}
