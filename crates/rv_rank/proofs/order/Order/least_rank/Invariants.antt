use Rattle.rv_rank.proofs.Common.{◌≡◌, ◌≤◌, ◌⊎◌, ℕ, take, length, get_or, All, Contains}
use Rattle.rv_rank.proofs.order.Order.least_rank.Given as goal

abbrev pub invariant-loop-node : goal.invariant-loop-node
invariant-loop-node l = (l.least ≤ length l.self-inside.ranks.items)
    × All (λ a. l.least ≤ get_or l.self-inside.ranks.items a 0) (take l.node-index l.nodes)
    × ((l.least ≡ length l.self-inside.ranks.items) ⊎
    ((a : ℕ) × Contains l.nodes a × (get_or l.self-inside.ranks.items a 0 ≡ l.least)))
