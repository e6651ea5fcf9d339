use Rattle.rv_book.proofs.Common.{◌≢◌, ℕ, ◌<◌, at}
use Rattle.rv_book.proofs.nodes.find_node.Given as goal

abbrev pub invariant-loop-k : goal.invariant-loop-k
invariant-loop-k l = (j : ℕ) → j < l.k → at l.ids j ≢ l.id
