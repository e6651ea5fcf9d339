use Rattle.rv_rank.proofs.Common.{rules, arith, get_or, [], length, drop, reverse, filter, ◌≡◌, ◌<◌, ◌≤◌, ◌+◌, ◌-◌}
use Rattle.rv_rank.proofs.Common.{◌++◌, ◌∙◌, refl, ap, sym, ℕ, true, false, not, inl, inr}
use Rattle.rv_rank.proofs.Common.{common_steps, Contains-get_or, length-drop, length-append, length-reverse, Has}
use Rattle.rv_rank.proofs.Common.{has_bit, is_traced, nat_lt, ◌&&◌, ◌||◌, AreBelow, cases_eq, cases_lt}
use Rattle.rv_rank.proofs.Common.{eq-eqb, ne_eqb, or-true, or-false}
use Rattle.std.proofs.lemmas.Bool.{false_from_ne_true}
use Rattle.rv_rank.proofs.Listing.{listed_all_few, listed_down_more, listed_from, listed_past}
use Rattle.rv_rank.proofs.Growth.{edge_from}
use Rattle.rv_rank.proofs.Sets.{joined_same}
use Rattle.rv_rank.proofs.Finding.{traced_is, is_traced-from}
use Rattle.rv_rank.proofs.Tracing.{IsTraced-start, IsTraced-more, IsTraced-skip}
use Rattle.rv_rank.proofs.search.sweep_backward.Goals as goal

pub loop-rank-init : goal.loop-rank-init
loop-rank-init c =
    let nodes = c.args.order.now.nodes in
    let ranks = c.args.order.now.ranks in
    let low = c.args.low in
    let new = c.put_below-end.new.set in
    let end = c.put_below-end.result in
    let marked = c.put_below-end.ensures in
    let none : filter (is_traced low ranks new) (drop end nodes) ≡ [] =
    listed_past (is_traced low ranks new) nodes end (λ k from l.
    let here = c.requires.inverse.there k l in
    false_from_ne_true (is_traced low ranks new (get_or nodes k 0)) (λ m.
    let w = traced_is low ranks new (get_or nodes k 0) m in
    omega (arith, (marked.below (get_or nodes k 0) w.0).1, here.1, from))) in
    record {
      traced = IsTraced-start c.args.walk.now.edges ranks c.args.preds.now c.requires.ordered c.args.found.now.behind
          new end c.requires.empty marked.joined marked.below;
      visits = grind (arith, common_steps);
      same = record { edges = refl; rounds = refl; room = omega arith };
      above = marked.higher;
      within = marked.within;
      up_to = omega arith;
      below = marked.below;
      long = refl;
      slots = refl;
      passed = λ k from l.
          let here = c.requires.inverse.there k l in
          let lacks = false_from_ne_true (is_traced low ranks new (get_or nodes k 0)) (λ m.
          let w = traced_is low ranks new (get_or nodes k 0) m in
          omega (arith, (marked.below (get_or nodes k 0) w.0).1, here.1, from)) in
          sym (ap (λ x. x || has_bit c.args.found.now.slots k) lacks);
      others = λ k l. refl;
      beyond = λ k l. refl;
    }

pub backward-requires-clause-room : goal.backward-requires-clause-room
backward-requires-clause-room c =
    search (length-append, length-reverse, listed_all_few, length-drop, rules)

pub put_all-requires : goal.put_all-requires
put_all-requires c = λ k d l.
    let a = get_or c.backward.result.now k d in
    let e = (c.backward.ensures.value a).0 (Contains-get_or c.backward.result.now k d l) in
    let b = edge_from c.loop-rank.walk.edges a c.node_at-node.result e in
    omega (
      arith,
      b,
      ap length c.loop-rank.invariant.same.edges,
      c.requires.ordered.long,
      c.requires.for_all.behind,
      c.put_below-end.ensures.room,
      c.loop-rank.invariant.long,
    )

pub loop-rank-preserved-then-has : goal.loop-rank-preserved-then-has
loop-rank-preserved-then-has c =
    let edges = c.args.walk.now.edges in
    let nodes = c.args.order.now.nodes in
    let ranks = c.args.order.now.ranks in
    let low = c.args.low in
    let old = c.loop-rank.found.behind in
    let new = c.put_all.new.set in
    let r = c.loop-rank.rank - 1 in
    let inv = c.loop-rank.invariant in
    let o = c.requires.ordered in
    let v = c.node_at-node.result in
    let at = c.node_at-node.ensures.ranked in
    let below = c.node_at-node.ensures.below in
    let is = c.node_at-node.ensures.value in
    let visited = c.backward.follows.holds-at-none in
    let sources = c.backward.result.now in
    let both = rw inv.same.edges at c.backward.ensures.value in
    let up : c.loop-rank.rank ≡ r + 1 = omega arith in
    let high : low ≤ r = omega arith in
    let l : r < length nodes = omega (arith, c.requires.inverse.long) in
    let traced = rw up at inv.traced in
    let listed = rw up at inv.visits in
    let joined = c.put_all.ensures.joined in
    let taken : Has old v = sym c.has.ensures ∙ c.if-has.true in
    let same : (k : ℕ) → r + 1 ≤ k → k < length nodes →
    is_traced low ranks old (get_or nodes k 0) ≡ is_traced low ranks new (get_or nodes k 0) =
    λ k b m. ap (λ x. x && not (nat_lt (get_or ranks (get_or nodes k 0) 0) low))
    (joined_same (has_bit old) (has_bit new) sources (get_or nodes k 0) joined (λ e. omega (
      arith,
      o.forward (get_or nodes k 0) v ((both (get_or nodes k 0)).0 e),
      (c.requires.inverse.there k m).1,
    ))) in
    let behind : is_traced low ranks new v ≡ true =
    is_traced-from low ranks new v (joined.kept v taken) (omega (arith, at, high)) in
    let here : is_traced low ranks new (get_or nodes r 0) ≡ true = ap (is_traced low ranks new) (sym is) ∙ behind in
    let more = listed_down_more (is_traced low ranks old) (is_traced low ranks new) nodes r l same here in
    let first = c.args.walk.now.visits in
    let slots = c.loop-rank.found.slots in
    let first_slots = c.args.found.now.slots in
    let list = reverse (filter (is_traced low ranks old) (drop (r + 1) nodes)) in
    let under : AreBelow ranks new c.put_below-end.result = λ a m. elim (joined.only a m) [
      | inl was ↦ inv.below a was
      | inr w ↦
          let e = (both a).0 w in
          (omega (arith, edge_from edges a v e, o.long), omega (arith, o.forward a v e, at, inv.up_to))
    ] in
    record {
      traced = IsTraced-more edges ranks c.args.preds.now o old new r v sources (λ a w. (both a).0 w)
          (λ a e. (both a).1 e) traced at below taken joined;
      visits = grind (arith, common_steps);
      same = grind (arith, common_steps);
      above = high;
      within = inv.within;
      up_to = omega (arith, inv.up_to);
      below = under;
      long = c.put_all.ensures.room ∙ inv.long;
      slots = c.insert.ensures.room ∙ inv.slots;
      passed = λ k from m. elim (cases_eq r k) [
        | inl q ↦
            let test = rw q at here in
            c.insert.ensures.inserted k ∙ ap (λ x. has_bit slots k || x) (eq-eqb r k q) ∙ or-true (has_bit slots k) ∙
            sym (ap (λ x. x || has_bit first_slots k) test)
        | inr n ↦ c.insert.ensures.inserted k ∙ ap (λ x. has_bit slots k || x) (ne_eqb r k n) ∙
            or-false (has_bit slots k) ∙ inv.passed k (omega (arith, from, n, up)) m ∙
            ap (λ x. x || has_bit first_slots k) (same k (omega (arith, from, n)) m)
      ];
      others = λ k under. c.insert.ensures.inserted k ∙
          ap (λ x. has_bit slots k || x) (ne_eqb r k (omega (arith, under))) ∙ or-false (has_bit slots k) ∙
          inv.others k (omega (arith, under, up));
      beyond = λ k past. c.insert.ensures.inserted k ∙
          ap (λ x. has_bit slots k || x) (ne_eqb r k (omega (arith, past, l))) ∙ or-false (has_bit slots k) ∙
          inv.beyond k past;
    }

pub loop-rank-preserved : goal.loop-rank-preserved
loop-rank-preserved c =
    let edges = c.args.walk.now.edges in
    let nodes = c.args.order.now.nodes in
    let ranks = c.args.order.now.ranks in
    let low = c.args.low in
    let behind = c.loop-rank.found.behind in
    let r = c.loop-rank.rank - 1 in
    let inv = c.loop-rank.invariant in
    let up : c.loop-rank.rank ≡ r + 1 = omega arith in
    let high : low ≤ r = omega arith in
    let l : r < length nodes = omega (arith, c.requires.inverse.long, inv.within) in
    let v = c.node_at-node.result in
    let at = c.node_at-node.ensures.ranked in
    let is = c.node_at-node.ensures.value in
    let traced = rw up at inv.traced in
    let listed = rw up at inv.visits in
    let free : has_bit behind v ≡ false = sym c.has.ensures ∙ c.if-has.false in
    let no : is_traced low ranks behind (get_or nodes r 0) ≡ false =
    ap (is_traced low ranks behind) (sym is) ∙ ap (λ x. x && not (nat_lt (get_or ranks v 0) low)) free in
    record {
      traced = IsTraced-skip edges ranks c.args.preds.now c.requires.ordered behind r v traced at
          c.node_at-node.ensures.below free;
      visits = grind (arith, common_steps);
      same = inv.same;
      above = high;
      within = inv.within;
      up_to = omega (arith, inv.up_to);
      below = inv.below;
      long = inv.long;
      slots = inv.slots;
      passed = λ k from m. elim (cases_eq r k) [
        | inl q ↦
            let test = rw q at no in
            inv.others k (omega (arith, sym q, up)) ∙ sym (ap (λ x. x || has_bit c.args.found.now.slots k) test)
        | inr n ↦ inv.passed k (omega (arith, from, n, up)) m
      ];
      others = λ k under. inv.others k (omega (arith, under, up));
      beyond = inv.beyond;
    }

pub returns-clause-visits : goal.returns-clause-visits
returns-clause-visits c =
    let nodes = c.args.order.now.nodes in
    let ranks = c.args.order.now.ranks in
    let low = c.args.low in
    let behind = c.loop-rank.found.behind in
    let inv = c.loop-rank.invariant in
    let e : c.loop-rank.rank ≡ low = omega (arith, inv.above) in
    let all = listed_from (is_traced low ranks behind) nodes low (λ k b l.
    let here = c.requires.inverse.there k l in
    false_from_ne_true (is_traced low ranks behind (get_or nodes k 0)) (λ m.
    omega (arith, (traced_is low ranks behind (get_or nodes k 0) m).1, here.1, b))) in
    let listed = rw e at inv.visits in
    listed ∙ ap (λ x. c.args.walk.now.visits ++ reverse x) all

pub returns-clause-slots : goal.returns-clause-slots
returns-clause-slots c =
    let nodes = c.args.order.now.nodes in
    let ranks = c.args.order.now.ranks in
    let low = c.args.low in
    let behind = c.loop-rank.found.behind in
    let slots = c.args.found.now.slots in
    let inv = c.loop-rank.invariant in
    let e : c.loop-rank.rank ≡ low = omega (arith, inv.above) in
    record {
      ranks = λ k l. elim (cases_lt k low) [
        | inl under ↦
            let here = c.requires.inverse.there k l in
            let lacks = false_from_ne_true (is_traced low ranks behind (get_or nodes k 0)) (λ m.
            omega (arith, (traced_is low ranks behind (get_or nodes k 0) m).1, here.1, under)) in
            inv.others k (omega (arith, e, under)) ∙ sym (ap (λ x. x || has_bit slots k) lacks)
        | inr over ↦ inv.passed k (omega (arith, e, over)) l
      ];
      beyond = inv.beyond;
    }
