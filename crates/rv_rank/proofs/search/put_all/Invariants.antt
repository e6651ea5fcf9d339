use Rattle.rv_rank.proofs.Common.{◌≡◌, length, take, has_bit, IsJoined}
use Rattle.rv_rank.proofs.search.put_all.Given as goal

abbrev pub invariant-loop-node : goal.invariant-loop-node
invariant-loop-node l = record {
  joined : IsJoined (has_bit l.initial.set) (has_bit l.set) (take l.node-index l.nodes);
  room : length l.set ≡ length l.initial.set;
}
