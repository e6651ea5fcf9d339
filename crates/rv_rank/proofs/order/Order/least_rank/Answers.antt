use Rattle.rv_rank.proofs.Common.{arith, get_or, take, ◌≡◌, ◌≤◌, sym, ◌∙◌, inr, take_all, get_or_read, All-more}
use Rattle.rv_rank.proofs.Common.{All-weaker, Contains-get_or, rules}
use Rattle.rv_rank.proofs.order.Order.least_rank.Goals.{then-rank-least, else-rank-least}
use Rattle.rv_rank.proofs.order.Order.least_rank.Goals as goal

pub loop-node-preserved : goal.loop-node-preserved
loop-node-preserved c =
    let ranks = c.self.inside.ranks.items in
    let i = c.loop-node.node-index in
    let nodes = c.args.nodes.now in
    let node = get_or nodes i 0 in
    let placed = rw (← c.self.view_is) at c.requires in
    let rank = get_or_read ranks node c.index.result.now (placed i 0 c.loop-node-test.true) c.index.ensures 0 in
    let inv = c.loop-node.invariant in
    elim c.if-rank-least.branch [
      | then-rank-least w ↦
          let new = c.if-rank-least.least in
          let is : new ≡ get_or ranks node 0 = w.least-is ∙ rank in
          let less : new ≤ c.loop-node.least = omega (arith, w.least-is, w.if-rank-least.true) in (
            omega (arith, inv.0),
            All-more (λ a. new ≤ get_or ranks a 0) nodes i 0 c.loop-node-test.true
                (All-weaker (λ a. c.loop-node.least ≤ get_or ranks a 0) (λ a. new ≤ get_or ranks a 0)
                (λ a p. omega arith) (take i nodes) inv.1) (omega (arith, is)),
            inr (node, Contains-get_or nodes i 0 c.loop-node-test.true, sym is),
          )
      | else-rank-least w ↦
          rw w.least-is (
            inv.0,
            All-more (λ a. c.loop-node.least ≤ get_or ranks a 0) nodes i 0
                c.loop-node-test.true inv.1 (omega (arith, rank, w.if-rank-least.false)),
            inv.2,
          )
    ]

pub returns-clause-least : goal.returns-clause-least
returns-clause-least c = search (take_all, rules)
