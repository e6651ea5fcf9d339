use Rattle.rv_book.proofs.Common.{arith, common_steps, ◌≡◌, List, [], ◌∷◌, ◌++◌, length, sym, ap, ◌∙◌, subst, Id}
use Rattle.rv_book.proofs.Common.{Entry, Past, kept_of, IsFit, Arranged, IsArranged, AreNodes, HasNode}
use Rattle.rv_book.proofs.CallValues.{nodes_low, circle_between, grown_between, circle_at, ShowsCircle}
use Rattle.rv_book.proofs.GrownHistories.{before_node, after_node, arranged_node}
use Rattle.rv_book.proofs.Circles.{circle_shown}
use Rattle.rv_book.proofs.Refusals.{back, arranged_of, arranged_same, added_refused, OnErr-always}
use Rattle.rv_book.proofs.arrangement.Arrangement.place.Goals as goal

pub find_ends-requires-clause-before : goal.find_ends-requires-clause-before
find_ends-requires-clause-before c l listed =
    let k = kept_of c.args.entry.event c.args.around.now in
    let fit = subst (λ (w : Arranged). IsFit w k) (sym c.self.view_is) c.requires.fit in
    subst (λ (ids : List Id). HasNode ids l.id) (sym (c.as_slice-ids.ensures.value ∙ c.in_ok-reserve.ensures.items))
    (before_node _ c.self.invariant k fit l listed)

pub find_ends-requires-clause-after : goal.find_ends-requires-clause-after
find_ends-requires-clause-after c l listed =
    let k = kept_of c.args.entry.event c.args.around.now in
    let fit = subst (λ (w : Arranged). IsFit w k) (sym c.self.view_is) c.requires.fit in
    subst (λ (ids : List Id). HasNode ids l.id) (sym (c.as_slice-ids.ensures.value ∙ c.in_ok-reserve.ensures.items))
    (after_node _ c.self.invariant k fit l listed)

pub place-requires-clause-preds : goal.place-requires-clause-preds
place-requires-clause-preds c =
    nodes_low c.as_slice-ids.result.now c.args.around.now.before c.find_ends.new.preds.items
    c.as_slice-preds.result.now c.self.inside.ranks.ranks c.in_ok-find_ends.ensures.before
    c.as_slice-preds.ensures.value
    (ap length (c.as_slice-ids.ensures.value ∙ c.in_ok-reserve.ensures.items) ∙ c.self.invariant.long)

pub place-requires-clause-succs : goal.place-requires-clause-succs
place-requires-clause-succs c =
    nodes_low c.as_slice-ids.result.now c.args.around.now.after c.find_ends.new.succs.items
    c.as_slice-succs.result.now c.self.inside.ranks.ranks c.in_ok-find_ends.ensures.after
    c.as_slice-succs.ensures.value
    (ap length (c.as_slice-ids.ensures.value ∙ c.in_ok-reserve.ensures.items) ∙ c.self.invariant.long)

pub invariant_of-self-in-Ok : goal.invariant_of-self-in-Ok
invariant_of-self-in-Ok c =
    let k = kept_of c.args.entry.event c.args.around.now in
    let fit = subst (λ (w : Arranged). IsFit w k) (sym c.self.view_is) c.requires.fit in
    let is = c.as_slice-ids.ensures.value ∙ c.in_ok-reserve.ensures.items in
    let found = c.in_ok-find_ends.ensures in
    let preds = c.find_ends.new.preds.items in
    let succs = c.find_ends.new.succs.items in
    let placed = c.in-Ok.ensures.placed in
    let whole = arranged_node _ c.self.invariant k fit preds succs
    (subst (λ (x : List Id). AreNodes x k.before preds) is found.before)
    (subst (λ (x : List Id). AreNodes x k.after succs) is found.after) c.requires.memory
    c.place.new.self.edges c.place.new.self.ranks
    (grown_between _ _ preds _ succs _ c.as_slice-preds.ensures.value c.as_slice-succs.ensures.value placed.grown)
    placed.ordered (c.self.inside.history.log ++ c.args.entry ∷ []) in
    let ids : c.push.new.self.items ≡ c.self.inside.ids.items ++ k.event.id ∷ [] =
    grind (arith, common_steps) in
    subst (λ (h : Past). IsArranged (record {
      model = h.model;
      log = h.log;
      history = h.kept;
      edges = c.place.new.self.edges;
      ranks = c.place.new.self.ranks;
      ids = c.push.new.self.items;
    })) (sym c.in_ok-push_known.ensures.pushed)
    (subst (λ (x : List Id). IsArranged (record {
      model = c.self.inside.history.model;
      log = c.self.inside.history.log ++ c.args.entry ∷ [];
      history = c.self.inside.history.kept ++ k ∷ [];
      edges = c.place.new.self.edges;
      ranks = c.place.new.self.ranks;
      ids = x;
    })) (sym ids) whole)

-- the path that the order keeper found shows a circle over the event
pub refuse-refusal-requires : goal.refuse-refusal-requires
refuse-refusal-requires c =
    let k = kept_of c.args.entry.event c.args.around.now in
    let fit = subst (λ (w : Arranged). IsFit w k) (sym c.self.view_is) c.requires.fit in
    let ids = c.as_slice-ids.ensures.value ∙ c.in_ok-reserve.ensures.items in
    let found = c.in_ok-find_ends.ensures in
    let preds = c.find_ends.new.preds.items in
    let succs = c.find_ends.new.succs.items in
    let path = c.in-Circle.path.items in
    let was = back c.self.inside.history c.push_known.new.self c.pop-removed.new.self c.args.entry
    c.pop-removed.result c.args.around.now c.in_ok-push_known.ensures.pushed c.pop-removed.ensures.model
    c.pop-removed.ensures.log c.pop-removed.ensures.popped in
    let shown : ShowsCircle c.pop-removed.new.self.model c.pop-removed.new.self.kept c.as_slice-names.result.now
    c.as_slice-nodes.result.now c.pop-removed.result.event =
    subst (λ (x : Entry). ShowsCircle c.pop-removed.new.self.model c.pop-removed.new.self.kept
    c.as_slice-names.result.now c.as_slice-nodes.result.now x.event) (sym was.entry)
    (circle_at _ _ _ _ _ _ path _ k.event (ap (λ (w : Past). w.model) was.history)
    (ap (λ (w : Past). w.kept) was.history)
    (c.as_slice-names.ensures.value ∙ c.in_ok-reserve.ensures.items) c.as_slice-nodes.ensures.value
    (circle_shown _ c.self.invariant k fit preds succs
    (subst (λ (x : List Id). AreNodes x k.before preds) ids found.before)
    (subst (λ (x : List Id). AreNodes x k.after succs) ids found.after) path
    (circle_between _ preds _ succs _ path c.as_slice-preds.ensures.value c.as_slice-succs.ensures.value
    (rw c.in-Circle.is at c.in-Err.ensures.refused)))) in
    record { low = shown.low; leads = shown.leads; once = shown.once }

pub invariant_of-self-in-Err : goal.invariant_of-self-in-Err
invariant_of-self-in-Err c =
    let was = back c.self.inside.history c.push_known.new.self c.pop-removed.new.self c.args.entry
    c.pop-removed.result c.args.around.now c.in_ok-push_known.ensures.pushed c.pop-removed.ensures.model
    c.pop-removed.ensures.log c.pop-removed.ensures.popped in
    let as_it_was = arranged_same was.history c.in-Err.ensures.edges c.in-Err.ensures.ranks
    c.in_ok-reserve.ensures.items in
    subst IsArranged (sym as_it_was) c.self.invariant

pub returns-in_default-clause-unchanged : goal.returns-in_default-clause-unchanged
returns-in_default-clause-unchanged c =
    let was = back c.self.inside.history c.push_known.new.self c.pop-removed.new.self c.args.entry
    c.pop-removed.result c.args.around.now c.in_ok-push_known.ensures.pushed c.pop-removed.ensures.model
    c.pop-removed.ensures.log c.pop-removed.ensures.popped in
    arranged_same was.history c.in-Err.ensures.edges c.in-Err.ensures.ranks
    c.in_ok-reserve.ensures.items ∙ c.self.view_is

pub returns-in-Circle-clause-added : goal.returns-in-Circle-clause-added
returns-in-Circle-clause-added c =
    let was = back c.self.inside.history c.push_known.new.self c.pop-removed.new.self c.args.entry
    c.pop-removed.result c.args.around.now c.in_ok-push_known.ensures.pushed c.pop-removed.ensures.model
    c.pop-removed.ensures.log c.pop-removed.ensures.popped in
    let left = arranged_of c.pop-removed.new.self c.place.new.self.edges c.place.new.self.ranks
    c.reserve.new.self.items in
    let as_it_was = arranged_same was.history c.in-Err.ensures.edges c.in-Err.ensures.ranks
    c.in_ok-reserve.ensures.items in
    added_refused c.args.self.now left c.args.entry c.pop-removed.result (as_it_was ∙ c.self.view_is) was.entry
    c.refuse-refusal.result c.refuse-refusal.ensures

pub returns-in-Circle-clause-unchanged : goal.returns-in-Circle-clause-unchanged
returns-in-Circle-clause-unchanged c =
    let was = back c.self.inside.history c.push_known.new.self c.pop-removed.new.self c.args.entry
    c.pop-removed.result c.args.around.now c.in_ok-push_known.ensures.pushed c.pop-removed.ensures.model
    c.pop-removed.ensures.log c.pop-removed.ensures.popped in
    let as_it_was = arranged_same was.history c.in-Err.ensures.edges c.in-Err.ensures.ranks
    c.in_ok-reserve.ensures.items in
    OnErr-always c.refuse-refusal.result (as_it_was ∙ c.self.view_is)
