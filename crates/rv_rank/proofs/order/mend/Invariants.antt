use Rattle.rv_rank.proofs.Common.{◌≡◌, ◌≤◌, ◌-◌, length, count_below, IsMended, slot_in, members_in}
use Rattle.rv_rank.proofs.order.mend.Given as goal

abbrev pub invariant-slots : goal.invariant-slots
invariant-slots l = record {
  mended : IsMended (slot_in l.found) (members_in l.found l.visits (length l.initial.nodes)) l.initial.nodes
      l.initial.ranks l.nodes l.ranks l.rank;
  next : l.next ≡ count_below (slot_in l.found) l.rank;
  within : l.rank ≤ length l.initial.nodes;
}

abbrev pub decreases-slots : goal.decreases-slots
decreases-slots l = length l.initial.nodes - l.rank
