use Rattle.rv_rank.proofs.Common.{rules, arith, [], length, ◌≡◌, ap, inl, inr, err_from_is_err_and, common_steps, ◌∙◌}
use Rattle.rv_rank.proofs.Listing.{listed_all_few}
use Rattle.rv_rank.proofs.Finding.{circle_from_trail, only_ahead, only_affected, found_none, found_both}
use Rattle.rv_rank.proofs.search.search.Goals as goal

pub returns-then-is_empty-clause-found : goal.returns-then-is_empty-clause-found
returns-then-is_empty-clause-found c =
    let none : c.args.succs.now ≡ [] = grind (arith, common_steps) in
    let cleared = c.clear.ensures in
    rw (none, c.requires.begun) (found_none c.args.walk.now.edges c.args.order.now c.args.preds.now
    c.clear.new.self (cleared.low ∙ c.len-count.ensures.count) cleared.split cleared.behind cleared.slots)

pub trail-requires-clause-affected : goal.trail-requires-clause-affected
trail-requires-clause-affected c =
    let found = c.sweep_forward.ensures in
    rw found.same.edges (only_ahead c.args.walk.now.edges c.args.order.now.nodes c.args.order.now.ranks c.args.succs.now
    c.least_rank-low.result c.sweep_forward.new.slots (length c.args.order.now.ranks)
    c.sweep_forward.new.walk.visits found.searched found.visits)

pub trail-requires-clause-few : goal.trail-requires-clause-few
trail-requires-clause-few c = search (listed_all_few, rules)

pub returns-in_err-path-clause-affected : goal.returns-in_err-path-clause-affected
returns-in_err-path-clause-affected c =
    let only = rw c.sweep_forward.ensures.same.edges at c.trail.ensures.affected in
    let p = err_from_is_err_and c.from_residual-in_err-path.result c.from_residual-in_err-path.ensures.1 in
    rw p.1 (only_affected c.args.walk.now.edges c.args.order.now.ranks c.args.preds.now c.args.succs.now
    c.trail.new.walk.visits only)

pub returns-in-Some-clause-refused : goal.returns-in-Some-clause-refused
returns-in-Some-clause-refused c =
    let path = rw c.sweep_forward.ensures.same.edges at c.in_ok-path.ensures.trail in
    circle_from_trail c.args.walk.now.edges c.args.succs.now c.args.preds.now c.in-Some.end
    c.in_ok-path.path.items path c.in-Some.ensures.0

pub returns-in-Some-clause-affected : goal.returns-in-Some-clause-affected
returns-in-Some-clause-affected c =
    let only = rw c.sweep_forward.ensures.same.edges at c.in_ok-path.ensures.affected in
    only_affected c.args.walk.now.edges c.args.order.now.ranks c.args.preds.now c.args.succs.now
    c.trail.new.walk.visits only

pub sweep_backward-requires-clause-few : goal.sweep_backward-requires-clause-few
sweep_backward-requires-clause-few c = search (listed_all_few, rules)

pub returns-clause-found : goal.returns-clause-found
returns-clause-found c =
    let forward = c.sweep_forward.ensures in
    let backward = c.sweep_backward.ensures in
    let traced = rw forward.same.edges at backward.traced in
    let lowest = c.least_rank-low.ensures in
    found_both c.args.walk.now.edges c.args.order.now c.args.preds.now c.args.succs.now
    (record {
      low = c.least_rank-low.result;
      split = length c.visits-split.result.now;
      behind = c.sweep_backward.new.found.behind;
      slots = c.sweep_backward.new.found.slots;
    })
    c.sweep_forward.new.slots c.requires.ordered c.requires.inverse forward.searched traced backward.slots
    c.in_default.ensures c.sweep_forward.new.walk.visits c.sweep_backward.new.walk.visits forward.ranks backward.nodes
    lowest.least lowest.within (λ l. elim lowest.some [ inl e ↦ absurd (omega (arith, e, l)) | inr w ↦ w ])
    (ap length c.visits-split.ensures) forward.visits backward.visits
