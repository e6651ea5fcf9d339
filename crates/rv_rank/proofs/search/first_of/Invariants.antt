use Rattle.rv_rank.proofs.Common.{◌≡◌, false, take, All, has_slot}
use Rattle.rv_rank.proofs.search.first_of.Given as goal

abbrev pub invariant-loop-node : goal.invariant-loop-node
invariant-loop-node l = All (λ a. has_slot l.order.ranks l.slots a ≡ false) (take l.node-index l.nodes)
