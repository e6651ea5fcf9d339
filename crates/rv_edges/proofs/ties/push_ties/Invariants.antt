use Rattle.std.proofs.Common.{map}
use Rattle.rv_edges.proofs.Common.{◌≡◌, ◌++◌, take}
use Rattle.rv_edges.proofs.TiesOfLinks.{into, out_of}
use Rattle.rv_edges.proofs.ties.push_ties.Given as goal

abbrev pub invariant-loop-source : goal.invariant-loop-source
invariant-loop-source l = l.ties.items ≡ l.fn.ties.items ++ map (into l.id) (take l.source-index l.before)

abbrev pub invariant-loop-target : goal.invariant-loop-target
invariant-loop-target l =
    l.ties.items ≡ (l.fn.ties.items ++ map (into l.id) l.before) ++ map (out_of l.id) (take l.target-index l.after)
