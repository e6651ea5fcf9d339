use Rattle.rv_edges.proofs.Common.{◌≡◌, ◌++◌, take}
use Rattle.rv_edges.proofs.packed_link.push_links.Given as goal

abbrev pub invariant-loop-link : goal.invariant-loop-link
invariant-loop-link l = l.list.items ≡ l.initial.list.items ++ take l.link-index l.links
