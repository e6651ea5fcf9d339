use Rattle.rv_edges.proofs.Common.{◌≡◌, take}
use Rattle.rv_edges.proofs.links.unpacked.Given as goal

abbrev pub invariant-loop-link : goal.invariant-loop-link
invariant-loop-link l = l.links.items ≡ take l.link-index l.packed
