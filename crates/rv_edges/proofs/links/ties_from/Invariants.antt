use Rattle.rv_edges.proofs.Common.{◌≡◌, ◌++◌, drop, events, kept_from, length, own_from, total}
use Rattle.rv_edges.specs.Ties.{ties_of}
use Rattle.rv_edges.proofs.links.ties_from.Given as goal

abbrev pub invariant-loop-k : goal.invariant-loop-k
invariant-loop-k l = (total (drop l.k l.sides) ≡ length l.rest)
    × (l.ties.items ++ ties_of (kept_from (events (drop l.k l.log)) (own_from l.rest (drop l.k l.sides)))
    ≡ ties_of (kept_from (events l.log) (own_from l.links l.sides)))
