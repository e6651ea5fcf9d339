use Rattle.std.proofs.Common.{◌+◌, ap, refl, subst, sym, ◌∙◌, arith, rules}
use Rattle.rv_explain.proofs.Shows.{AreColumnsBelow, column-more, column-none, columns-all}
use Rattle.rv_explain.proofs.shown.columns_of.Goals.{then-not-is_empty+in_ok-push, else-not-is_empty}
use Rattle.rv_explain.proofs.shown.columns_of.Goals as goal

pub harts-preserved : goal.harts-preserved
harts-preserved c = elim c.if-not-is_empty.branch [
  | then-not-is_empty+in_ok-push w ↦
      subst (AreColumnsBelow c.args.shown.now (c.harts.hart + 1))
      (sym (ap (λ v. v.items) w.columns-is ∙ w.in_ok-push.ensures.items))
      (column-more c.args.shown.now c.harts.hart c.harts.columns.items _ c.harts.invariant refl
      (record { events = c.in_ok-events.ensures; some = search rules }))
  | else-not-is_empty w ↦
      subst (AreColumnsBelow c.args.shown.now (c.harts.hart + 1)) (sym (ap (λ v. v.items) w.columns-is))
      (column-none c.args.shown.now c.harts.hart c.harts.columns.items c.harts.invariant (search rules))
]

pub returns : goal.returns
returns c = columns-all c.args.shown.now c.harts.columns.items c.harts.hart
    (λ low. let end = c.harts-test.false in omega (low, end, arith)) c.requires c.harts.invariant
