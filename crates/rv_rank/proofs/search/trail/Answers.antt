use Rattle.rv_rank.proofs.Common.{arith, get_or, length, ◌∙◌, ap, sym}
use Rattle.rv_rank.proofs.Common.{Contains-get_or, common_steps, false≢true, has_slot, length_push}
use Rattle.rv_rank.proofs.Lists.{list_any-contains, contains-list_any}
use Rattle.rv_rank.proofs.Growth.{edge_from}
use Rattle.rv_rank.proofs.Sets.{has_slot-below}
use Rattle.rv_rank.proofs.Trail.{IsWayBack-more, some_source, IsTrail-reverse, only_more}
use Rattle.rv_rank.proofs.search.trail.Goals as goal

pub unreachable-requires : goal.unreachable-requires
unreachable-requires c =
    let ahead = has_slot c.args.order.now.ranks c.args.slots.now in
    let inv = c.loop-walk.invariant in
    let both = rw inv.same.edges at c.backward.ensures.value in
    some_source c.args.walk.now.edges c.args.order.now.ranks c.args.succs.now c.requires.searched.0
    ahead c.backward.result.now c.loop-walk.node c.requires.ordered c.requires.searched.1 inv.way.found
    (λ w. false≢true (sym c.loop-walk-test.true ∙ c.contains.ensures.value
    ∙ list_any-contains c.args.succs.now c.loop-walk.node w))
    (λ a e. (both a).1 e) c.in_default.ensures.found

pub returns-in_err-push-2-clause-affected : goal.returns-in_err-push-2-clause-affected
returns-in_err-push-2-clause-affected c =
    let inv = c.loop-walk.invariant in
    rw c.backward.follows.holds-at-none.visits (only_more c.args.walk.now.edges c.args.order.now.ranks
    c.args.succs.now c.loop-walk.walk.visits c.loop-walk.node inv.only
    (c.requires.searched.1.found c.loop-walk.node inv.way.found)
    (has_slot-below c.args.order.now.ranks c.args.slots.now c.loop-walk.node inv.way.found))

pub loop-walk-smaller : goal.loop-walk-smaller
loop-walk-smaller c =
    let inv = c.loop-walk.invariant in
    let both = rw inv.same.edges at c.backward.ensures.value in
    c.requires.ordered.forward c.in-Some.from c.loop-walk.node ((both c.in-Some.from).0 c.in-Some.ensures.found.0)

pub loop-walk-preserved : goal.loop-walk-preserved
loop-walk-preserved c =
    let ahead = has_slot c.args.order.now.ranks c.args.slots.now in
    let inv = c.loop-walk.invariant in
    let both = rw inv.same.edges at c.backward.ensures.value in
    let e = (both c.in-Some.from).0 c.in-Some.ensures.found.0 in
    let visited = c.backward.follows.holds-at-none in
    let long = ap length visited.visits ∙ length_push c.loop-walk.walk.visits c.loop-walk.node in
    record {
      way = rw c.in_ok-push-2.ensures.items (IsWayBack-more c.args.walk.now.edges ahead c.args.end
          c.loop-walk.node c.in-Some.from c.loop-walk.path.items inv.way e c.in-Some.ensures.found.1);
      only = rw visited.visits (only_more c.args.walk.now.edges c.args.order.now.ranks c.args.succs.now
          c.loop-walk.walk.visits c.loop-walk.node inv.only (c.requires.searched.1.found c.loop-walk.node inv.way.found)
          (has_slot-below c.args.order.now.ranks c.args.slots.now c.loop-walk.node inv.way.found));
      same = grind (arith, common_steps);
      room = omega (arith, long, inv.room, c.requires.ordered.forward c.in-Some.from c.loop-walk.node e);
    }

pub returns-clause-trail : goal.returns-clause-trail
returns-clause-trail c =
    let ahead = has_slot c.args.order.now.ranks c.args.slots.now in
    let inv = c.loop-walk.invariant in
    rw c.reverse.ensures.items (IsTrail-reverse c.args.walk.now.edges c.args.order.now.ranks c.args.succs.now
    ahead c.args.end c.loop-walk.node c.loop-walk.path.items c.requires.ordered inv.way
    (contains-list_any c.args.succs.now c.loop-walk.node (sym c.contains.ensures.value ∙ c.loop-walk-test.false)))

pub lowest_of-requires : goal.lowest_of-requires
lowest_of-requires c = λ k d l.
    let inv = c.loop-walk.invariant in
    let e = (c.backward.ensures.value (get_or c.backward.result.now k d)).0
    (Contains-get_or c.backward.result.now k d l) in
    let b = edge_from c.loop-walk.walk.edges (get_or c.backward.result.now k d) c.loop-walk.node e in
    omega (arith, b, ap length inv.same.edges, c.requires.ordered.long)
