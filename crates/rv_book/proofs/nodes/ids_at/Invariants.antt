use Rattle.rv_book.proofs.Common.{◌≡◌, map, take, at}
use Rattle.rv_book.proofs.nodes.ids_at.Given as goal

abbrev pub invariant-loop-node : goal.invariant-loop-node
invariant-loop-node l = l.found.items ≡ map (at l.ids) (take l.node-index l.nodes)
