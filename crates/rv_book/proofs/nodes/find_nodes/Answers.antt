use Rattle.rv_book.proofs.Common.{arith, take, take_more, Contains-get_or, Link, Preserved}
use Rattle.rv_book.proofs.NodeLists.{nodes_more}
use Rattle.rv_book.proofs.nodes.find_nodes.Goals as goal

pub node_of-requires-clause-has : goal.node_of-requires-clause-has
node_of-requires-clause-has c = c.requires.has _
    (Contains-get_or c.args.links.now c.loop-link.link-index _ (omega arith))

pub loop-link-preserved : goal.loop-link-preserved
loop-link-preserved c =
    let d : Link = record { id = record { hart = 0; seq = 0 }; reason = Preserved 0 } in
    rw (take_more c.args.links.now c.loop-link.link-index d (omega arith))
    (nodes_more c.args.ids.now (take c.loop-link.link-index c.args.links.now) c.loop-link.nodes.items
    c.push.new.self.items _ c.node_of.result c.loop-link.invariant c.node_of.ensures.low c.node_of.ensures.named
    c.in_ok-push.ensures.items)
