use Rattle.rv_rank.proofs.Common.{ℕ, arith, ◌∙◌, get_or, sym, false≢true}
use Rattle.rv_rank.proofs.Common.{Contains-get_or, take_all}
use Rattle.rv_rank.proofs.Sets.{has_slot-of}
use Rattle.rv_rank.proofs.Trail.{IsLowest-more}
use Rattle.rv_rank.proofs.search.lowest_of.Goals as goal
use Rattle.rv_rank.proofs.search.lowest_of.Goals.{then-has+then-rank, else-has}
use Rattle.rv_rank.proofs.search.lowest_of.Goals.{else-has-via-then-has+else-rank, else-has-via-else-has}

pub loop-node-preserved : goal.loop-node-preserved
loop-node-preserved c =
    let i = c.loop-node.node-index in
    let nodes = c.args.nodes.now in
    let ranks = c.args.order.now.ranks in
    let slots = c.args.slots.now in
    let a = get_or nodes i 0 in
    let l = c.loop-node-test.true in
    let inv = c.loop-node.invariant in
    let slot = has_slot-of ranks slots a (c.requires i 0 l) in
    let bit = rw c.rank-rank.ensures.value at c.has.ensures in
    let more = λ (next : ℕ). IsLowest-more ranks slots nodes i c.loop-node.lowest next inv.least l in
    elim c.if-has.branch [
      | then-has+then-rank w ↦ rw w.lowest-is (record {
        within = Contains-get_or nodes i 0 l;
        found = slot ∙ sym bit ∙ w.if-has.true;
        least = more a (omega (arith, w.if-rank.true, w.rank.ensures.value, c.rank-rank.ensures.value))
            (λ is. omega arith);
      })
      | else-has w ↦ rw w.lowest-is (record {
        within = inv.within;
        found = inv.found;
        least = more c.loop-node.lowest (omega arith) (λ is. elim w.else-has.branch [
          | else-has-via-then-has+else-rank v ↦
              omega (arith, v.if-rank.false, v.rank.ensures.value, c.rank-rank.ensures.value)
          | else-has-via-else-has v ↦ absurd (false≢true (sym (slot ∙ sym bit ∙ v.if-has.false) ∙ is))
        ]);
      })
    ]

pub returns-clause-lowest : goal.returns-clause-lowest
returns-clause-lowest c =
    let least = c.loop-node.invariant.least in
    let all = take_all c.loop-node.node-index c.args.nodes.now (omega (arith, c.loop-node-test.false)) in
    rw all at least
