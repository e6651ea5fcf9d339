use Rattle.rv_rank.proofs.Common.{rules, arith, get_or, [], length, take, filter, ◌≡◌, ◌<◌, ◌∙◌, refl, ap, sym, ℕ}
use Rattle.rv_rank.proofs.Common.{◌++◌, ◌∷◌, true, false}
use Rattle.rv_rank.proofs.Common.{common_steps, length-take, has_slot, false≢true}
use Rattle.rv_rank.proofs.Listing.{listed_all_few, listed_none, listed_more, listed_jump, listed_to}
use Rattle.rv_rank.proofs.Searching.{IsSearched-start, IsSearched-more, IsSearched-jump, targets_below}
use Rattle.rv_rank.proofs.Sets.{joined_same, has_slot-at, has_slot-none}
use Rattle.std.proofs.lemmas.Bool.{false_from_ne_true}
use Rattle.rv_rank.proofs.search.sweep_forward.Goals as goal

pub put_ranks-requires-clause-within : goal.put_ranks-requires-clause-within
put_ranks-requires-clause-within c = λ r is. absurd (false≢true (sym (c.requires.empty r) ∙ is))

pub ranks-init : goal.ranks-init
ranks-init c =
    let nodes = c.args.order.now.nodes in
    let ranks = c.args.order.now.ranks in
    let low = c.args.low in
    let old = c.args.slots.now in
    let new = c.put_ranks.new.slots in
    let empty : (a : ℕ) → has_slot ranks old a ≡ false = λ a. has_slot-none ranks old a c.requires.empty in
    let searched = IsSearched-start c.args.walk.now.edges ranks c.args.succs.now low (has_slot ranks old)
    (has_slot ranks new) empty c.requires.low c.put_ranks.ensures.joined in
    let none : filter (has_slot ranks new) (take low nodes) ≡ [] =
    listed_none (has_slot ranks new) nodes low (λ k b l.
    let here = c.requires.inverse.there k l in
    false_from_ne_true (has_slot ranks new (get_or nodes k 0)) (λ m.
    omega (arith, searched.high (get_or nodes k 0) m, here.1, b))) in
    record {
      searched = searched;
      visits = c.requires.begun ∙ sym none;
      same = record { edges = refl; rounds = refl; room = omega arith };
      ranks = c.put_ranks.ensures.within;
      room = refl;
      within = c.requires.within;
    }

pub forward-requires-clause-room : goal.forward-requires-clause-room
forward-requires-clause-room c = search (listed_all_few, length-take, rules)

pub put_ranks-requires-in-Some-clause-nodes : goal.put_ranks-requires-in-Some-clause-nodes
put_ranks-requires-in-Some-clause-nodes c = grind (arith, common_steps, targets_below)

pub ranks-preserved : goal.ranks-preserved
ranks-preserved c =
    let edges = c.args.walk.now.edges in
    let nodes = c.args.order.now.nodes in
    let ranks = c.args.order.now.ranks in
    let succs = c.args.succs.now in
    let low = c.args.low in
    let slots = c.ranks.slots in
    let more = c.put_ranks-in-Some.new.slots in
    let old = has_slot ranks slots in
    let new = has_slot ranks more in
    let inv = c.ranks.invariant in
    let o = c.requires.ordered in
    let inverse = c.requires.inverse in
    let first = c.in-Some.ensures in
    let r = c.in-Some.next in
    let below : r < length ranks = inv.ranks r first.1 in
    let l : r < length nodes = omega (arith, below, inverse.long) in
    let v = c.node_at-node.result in
    let at = c.node_at-node.ensures.ranked in
    let is = c.node_at-node.ensures.value in
    let put = c.put_ranks-in-Some.ensures in
    let visited = c.forward.follows.holds-at-none in
    let taken : old v ≡ true = ap old is ∙ has_slot-at nodes ranks slots r inverse l ∙ first.1 in
    let joined = rw (c.forward.ensures.value, inv.same.edges) at put.joined in
    let passed = IsSearched-jump edges ranks succs low slots c.ranks.rank r first.2 inv.searched in
    let jump = listed_jump old nodes c.ranks.rank r first.0 (λ k from under here.
    has_slot-at nodes ranks slots k inverse here ∙ first.2 k from under) in
    let same : (k : ℕ) → k < r → k < length nodes → old (get_or nodes k 0) ≡ new (get_or nodes k 0) =
    λ k b m. joined_same old new (get_or edges v []) (get_or nodes k 0) joined
    (λ e. omega (arith, o.forward v (get_or nodes k 0) e, (inverse.there k m).1, at)) in
    let listed = listed_more old new nodes r l same (ap new (sym is) ∙ joined.kept v taken) in
    record {
      searched = IsSearched-more edges ranks succs low old new r v o passed at
          c.node_at-node.ensures.below taken joined;
      visits = visited.visits ∙ ap (λ x. x ++ v ∷ []) (inv.visits ∙ jump) ∙
          ap (λ x. filter old (take r nodes) ++ x ∷ []) is ∙ listed;
      same = grind (arith, common_steps);
      ranks = put.within;
      room = put.room ∙ inv.room;
      within = omega (arith, below);
    }

pub returns-clause-searched : goal.returns-clause-searched
returns-clause-searched c =
    let inv = c.ranks.invariant in
    IsSearched-jump c.args.walk.now.edges c.args.order.now.ranks c.args.succs.now c.args.low c.ranks.slots
    c.ranks.rank (length c.args.order.now.ranks) (λ k from under. c.in_default.ensures k from) inv.searched

pub returns-clause-visits : goal.returns-clause-visits
returns-clause-visits c =
    let nodes = c.args.order.now.nodes in
    let ranks = c.args.order.now.ranks in
    let inv = c.ranks.invariant in
    inv.visits ∙ listed_to (has_slot ranks c.ranks.slots) nodes c.ranks.rank (λ k from l.
    has_slot-at nodes ranks c.ranks.slots k c.requires.inverse l ∙ c.in_default.ensures k from)
