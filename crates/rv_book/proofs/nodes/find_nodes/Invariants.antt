use Rattle.rv_book.proofs.Common.{take, AreNodes}
use Rattle.rv_book.proofs.nodes.find_nodes.Given as goal

abbrev pub invariant-loop-link : goal.invariant-loop-link
invariant-loop-link l = AreNodes l.ids (take l.link-index l.links) l.nodes.items
