use Rattle.rv_rank.proofs.Common.{rules, ◌≡◌, ◌∙◌, get_or, sym, false, All-more, take_all, has_slot}
use Rattle.rv_rank.proofs.Sets.{has_slot-of}
use Rattle.rv_rank.proofs.search.first_of.Goals as goal

pub loop-node-preserved : goal.loop-node-preserved
loop-node-preserved c =
    let ranks = c.args.order.now.ranks in
    let i = c.loop-node.node-index in
    let a = get_or c.args.nodes.now i 0 in
    let told = sym c.has.ensures ∙ c.if-has.false in
    let bit = rw c.rank.ensures.value at told in
    All-more (λ a. has_slot ranks c.args.slots.now a ≡ false) c.args.nodes.now i 0 c.loop-node-test.true
    c.loop-node.invariant (has_slot-of ranks c.args.slots.now a (c.requires i 0 c.loop-node-test.true) ∙ bit)

pub returns : goal.returns
returns c = search (take_all, rules)
