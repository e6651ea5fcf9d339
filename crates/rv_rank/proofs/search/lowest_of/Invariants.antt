use Rattle.rv_rank.proofs.Common.{◌≡◌, true, take, Contains, IsLowest, has_slot}
use Rattle.rv_rank.proofs.search.lowest_of.Given as goal

abbrev pub invariant-loop-node : goal.invariant-loop-node
invariant-loop-node l = record {
  within : Contains l.nodes l.lowest;
  found : has_slot l.order.ranks l.slots l.lowest ≡ true;
  least : IsLowest l.order.ranks l.slots (take l.node-index l.nodes) l.lowest;
}
