use Rattle.rv_rank.proofs.Common.{arith, get_or, has_bit, ◌∙◌}
use Rattle.rv_rank.proofs.Sets.{IsJoined-more, AreBelow-more}
use Rattle.rv_rank.proofs.search.put_below.Goals as goal

pub loop-node-preserved : goal.loop-node-preserved
loop-node-preserved c =
    let i = c.loop-node.node-index in
    let node = get_or c.args.nodes.now i 0 in
    let within = c.requires.nodes i 0 c.loop-node-test.true in
    let inv = c.loop-node.invariant in
    record {
      joined = IsJoined-more (has_bit c.args.set.now) (has_bit c.loop-node.set) (has_bit c.insert.new.self)
          c.args.nodes.now i inv.joined c.loop-node-test.true c.insert.ensures.inserted;
      room = c.insert.ensures.room ∙ inv.room;
      below = AreBelow-more c.args.order.now.ranks c.loop-node.set c.insert.new.self node c.loop-node.top
          c.max-top.result inv.below c.insert.ensures.inserted within (omega (arith, c.max-top.ensures))
          (omega (arith, c.max-top.ensures, c.rank.ensures.value));
      higher = omega (arith, c.max-top.ensures, inv.higher);
      within = omega (arith, c.max-top.ensures, c.rank.ensures.below, inv.within);
    }
