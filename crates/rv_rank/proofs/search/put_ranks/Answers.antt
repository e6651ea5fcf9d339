use Rattle.rv_rank.proofs.Common.{arith, get_or, ◌∙◌}
use Rattle.rv_rank.proofs.Sets.{AreRanks-more, IsJoined-more, has_slot-more}
use Rattle.rv_rank.proofs.search.put_ranks.Goals as goal

pub insert-requires : goal.insert-requires
insert-requires c = omega (
  arith,
  c.loop-node.invariant.room,
  c.requires.room,
  c.rank.ensures.below,
)

pub loop-node-preserved : goal.loop-node-preserved
loop-node-preserved c =
    let i = c.loop-node.node-index in
    let node = get_or c.args.nodes.now i 0 in
    let ranks = c.args.order.now.ranks in
    let within = c.requires.nodes i 0 c.loop-node-test.true in
    let inv = c.loop-node.invariant in
    let put = rw c.rank.ensures.value at c.insert.ensures.inserted in
    record {
      joined = IsJoined-more _ _ _ c.args.nodes.now i inv.joined c.loop-node-test.true
          (has_slot-more c.args.order.now.nodes ranks c.loop-node.slots c.insert.new.self node c.requires.inverse
          within put);
      within = AreRanks-more c.args.order.now.nodes ranks c.loop-node.slots c.insert.new.self node
          c.requires.inverse inv.within within put;
      room = c.insert.ensures.room ∙ inv.room;
    }
