use Rattle.std.proofs.Common.{map}
use Rattle.rv_rank.proofs.Mirror.{mirror_grown}
use Rattle.rv_rank.proofs.walk.grow.Goals as goal

pub returns-clause-mirror : goal.returns-clause-mirror
returns-clause-mirror c =
    let old = c.args.nodes.now.items in
    let new = c.add_node.new.nodes.items in
    let told = c.in_ok-prepare.ensures in
    let g = rw (told.outgoing, c.in_ok-own.ensures.outgoing) at c.add_node.ensures.outgoing in
    let i = rw (told.incoming, c.in_ok-own.ensures.incoming) at c.add_node.ensures.incoming in
    mirror_grown (map (λ n. n.outgoing) old) (map (λ n. n.incoming) old) (map (λ n. n.outgoing) new)
    (map (λ n. n.incoming) new) c.args.preds.now c.args.succs.now c.requires.mirror g i
