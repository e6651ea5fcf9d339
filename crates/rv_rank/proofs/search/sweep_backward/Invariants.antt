use Rattle.rv_rank.proofs.Common.{◌≡◌, ◌<◌, ◌≤◌, ◌++◌, ◌||◌, ℕ, length, drop, get_or}
use Rattle.rv_rank.proofs.Common.{reverse, filter, AreBelow, IsTraced}
use Rattle.rv_rank.proofs.Common.{IsSameGraph, is_traced, has_bit}
use Rattle.rv_rank.proofs.search.sweep_backward.Given as goal

abbrev pub invariant-loop-rank : goal.invariant-loop-rank
invariant-loop-rank l = record {
  traced : IsTraced l.initial.walk.edges l.order.ranks l.preds l.found.behind l.rank;
  visits : l.walk.visits ≡ l.initial.walk.visits ++ reverse (filter (is_traced l.low l.order.ranks l.found.behind)
      (drop l.rank l.order.nodes));
  same : IsSameGraph l.initial.walk l.walk;
  above : l.low ≤ l.rank;
  within : l.end ≤ length l.order.ranks;
  up_to : l.rank ≤ l.end;
  below : AreBelow l.order.ranks l.found.behind l.end;
  long : length l.found.behind ≡ length l.initial.found.behind;
  slots : length l.found.slots ≡ length l.initial.found.slots;
  passed : (k : ℕ) → l.rank ≤ k → k < length l.order.nodes → has_bit l.found.slots k
      ≡ (is_traced l.low l.order.ranks l.found.behind (get_or l.order.nodes k 0) || has_bit l.initial.found.slots k);
  others : (k : ℕ) → k < l.rank → has_bit l.found.slots k ≡ has_bit l.initial.found.slots k;
  beyond : (k : ℕ) → length l.order.nodes ≤ k → has_bit l.found.slots k ≡ has_bit l.initial.found.slots k;
}

abbrev pub decreases-loop-rank : goal.decreases-loop-rank
decreases-loop-rank l = l.rank
