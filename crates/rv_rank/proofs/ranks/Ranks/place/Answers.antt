use Rattle.rv_rank.proofs.Common.{rules, arith, length, ◌≡◌, ap, sym, ◌∙◌, length-append, length-reverse}
use Rattle.rv_rank.proofs.Common.{err_from_is_err_and, common_steps}
use Rattle.rv_rank.proofs.Listing.{listed_all_few}
use Rattle.rv_rank.proofs.Placement.{found_plan, visits_only, visits_listed, ordered, spared, exchanged, taken}
use Rattle.rv_rank.proofs.Placement.{greatest, still, moved, refused_round}
use Rattle.rv_rank.proofs.ranks.Ranks.place.Goals as goal

pub returns-in_err-search-clause-round : goal.returns-in_err-search-clause-round
returns-in_err-search-clause-round c =
    let next = c.search.ensures.same.rounds ∙ c.in_ok-begin.ensures.rounds in
    let only = rw c.in_ok-begin.ensures.edges at c.in_err-search.ensures.affected in
    let p = err_from_is_err_and c.from_residual-in_err-search.result c.from_residual-in_err-search.ensures.1 in
    rw (p.1, ← c.self.view_is) (refused_round _ c.search.new.walk.edges c.self.inside.order.ranks
    c.search.new.walk.visits c.search.new.walk.rounds _ _ p.0 next only)

pub returns-in_err-reserve-clause-round : goal.returns-in_err-reserve-clause-round
returns-in_err-reserve-clause-round c =
    let found = rw c.in_ok-begin.ensures.edges at c.in_ok-search.ensures.found in
    let next = c.search.ensures.same.rounds ∙ c.in_ok-begin.ensures.rounds in
    let only = visits_only c.self.inside.walk.edges c.self.inside.order c.args.preds.now c.args.succs.now
    c.search.new.found c.search.new.walk.visits c.self.invariant c.len-node.ensures.inverse found in
    let p = err_from_is_err_and c.from_residual-in_err-reserve.result c.from_residual-in_err-reserve.ensures.1 in
    rw (p.1, ← c.self.view_is) (refused_round _ c.search.new.walk.edges c.reserve.new.self.ranks
    c.search.new.walk.visits c.search.new.walk.rounds _ _ p.0 next only)

pub returns-in_err-add-clause-round : goal.returns-in_err-add-clause-round
returns-in_err-add-clause-round c =
    let found = rw c.in_ok-begin.ensures.edges at c.in_ok-search.ensures.found in
    let next = c.in_err-add.ensures.rounds ∙ c.search.ensures.same.rounds ∙ c.in_ok-begin.ensures.rounds in
    let only = visits_only c.self.inside.walk.edges c.self.inside.order c.args.preds.now c.args.succs.now
    c.search.new.found c.search.new.walk.visits c.self.invariant c.len-node.ensures.inverse found in
    let p = err_from_is_err_and c.from_residual-in_err-add.result c.from_residual-in_err-add.ensures.1 in
    rw (p.1, ← c.self.view_is) (refused_round _ c.add.new.self.edges c.reserve.new.self.ranks
    c.add.new.self.visits c.add.new.self.rounds _ _ p.0 next (rw c.in_err-add.ensures.visits only))

pub mend-requires-clause-plan : goal.mend-requires-clause-plan
mend-requires-clause-plan c =
    let found = rw c.in_ok-begin.ensures.edges at c.in_ok-search.ensures.found in
    let visits : c.visits.result.now ≡ c.search.new.walk.visits = c.visits.ensures ∙ c.in_ok-add.ensures.visits in
    rw (
      c.in_ok-reserve.ensures.nodes,
      c.in_ok-reserve.ensures.ranks,
      visits,
    ) (found_plan c.self.inside.walk.edges c.self.inside.order c.args.preds.now c.args.succs.now
    c.search.new.found c.search.new.walk.visits c.self.invariant c.len-node.ensures.inverse found)

pub overflow_cast-visited : goal.overflow_cast-visited
overflow_cast-visited c = grind (arith, common_steps, length-append, length-reverse, listed_all_few)

pub invariant_of-self-2 : goal.invariant_of-self-2
invariant_of-self-2 c =
    let found = rw c.in_ok-begin.ensures.edges at c.in_ok-search.ensures.found in
    let grown = rw (c.search.ensures.same.edges, c.in_ok-begin.ensures.edges) at c.in_ok-add.ensures.ok in
    let local = rw c.in_ok-reserve.ensures.ranks at c.mend.ensures in
    let low_preds = rw (← c.self.view_is) at c.requires.preds in
    let low_succs = rw (← c.self.view_is) at c.requires.succs in
    ordered c.self.inside.walk.edges c.self.inside.order c.args.preds.now c.args.succs.now
    c.search.new.found c.search.new.walk.visits c.self.invariant c.len-node.ensures.inverse found c.add.new.self.edges
    c.mend.new.self.ranks low_preds low_succs grown local

pub returns-clause-placed : goal.returns-clause-placed
returns-clause-placed c =
    let edges = c.self.inside.walk.edges in
    let order = c.self.inside.order in
    let preds = c.args.preds.now in
    let succs = c.args.succs.now in
    let sets = c.search.new.found in
    let list = c.search.new.walk.visits in
    let o = c.self.invariant in
    let inverse = c.len-node.ensures.inverse in
    let found = rw c.in_ok-begin.ensures.edges at c.in_ok-search.ensures.found in
    let grown = rw (c.search.ensures.same.edges, c.in_ok-begin.ensures.edges) at c.in_ok-add.ensures.ok in
    let local = rw c.in_ok-reserve.ensures.ranks at c.mend.ensures in
    let low_preds = rw (← c.self.view_is) at c.requires.preds in
    let low_succs = rw (← c.self.view_is) at c.requires.succs in
    let new_edges = c.add.new.self.edges in
    let new = c.mend.new.self.ranks in
    let visited : c.visits-2.result.now ≡ list = c.visits-2.ensures ∙ c.in_ok-add.ensures.visits in
    rw (← c.self.view_is, visited) (record {
      node = c.len-node.ensures.count;
      moved = sym (moved edges order preds succs sets list o inverse found new_edges new low_preds
          low_succs grown local);
      visited = ap length (sym c.in_ok-add.ensures.visits);
      free = found.free;
      grown = grown;
      ordered = invariant_of-self-2 c;
      spared = search (spared, rules);
      exchanged = exchanged edges order preds succs sets list o inverse found new_edges new low_preds
          low_succs grown local;
      taken = taken edges order preds succs sets list o inverse found new_edges new low_preds
          low_succs grown local;
      visits = rw c.in_ok-add.ensures.visits (visits_listed edges order preds succs sets list o
          inverse found);
      rounds = c.in_ok-add.ensures.rounds ∙ c.search.ensures.same.rounds ∙ c.in_ok-begin.ensures.rounds;
      greatest = search (greatest, rules);
      still = λ e. let none = still edges order preds succs sets list o inverse found new_edges new
          low_preds low_succs grown local e in (none, none);
    })
