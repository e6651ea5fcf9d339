use Rattle.std.proofs.Common.{◌≡◌, ◌+◌, ◌≤◌, arith, rules}
use Rattle.rv_explain.proofs.Layouts.{across-all, across-step, end-bound, end-step}
use Rattle.rv_explain.specs.Layout.{blocks_text, end_of}
use Rattle.rv_explain.proofs.layout.line_across.Goals.{After-widest}
use Rattle.rv_explain.proofs.layout.line_across.Goals as goal

-- what is left ends where it did
next : (c : After-widest) → end_of c.each.at (blocks_text c.each.rest.now) ≡
    end_of (c.each.at + (c.widest.result + 3)) (blocks_text c.in-Some.after.now)
next c = end-step c.each.at c.widest.result c.each.rest.now c.in-Some.after.now c.in-Some.block.now
    c.as_slice-in-Some.result.now (search rules) (search rules) c.widest.ensures

bound : (c : After-widest) → c.each.at + (c.widest.result + 3) ≤ 103
bound c =
    let end = end-bound c.each.at c.widest.result (end_of c.each.at (blocks_text c.each.rest.now))
    c.in-Some.after.now (next c) in
    let narrow = c.each.invariant.narrow in
    omega (end, narrow, arith)

pub overflow_add-at : goal.overflow_add-at
overflow_add-at c = let low = bound (goal.at.overflow_add-at c).After-widest in omega (low, arith)

pub overflow_add-at-in-Some : goal.overflow_add-at-in-Some
overflow_add-at-in-Some c = let low = bound (goal.at.overflow_add-at-in-Some c).After-widest in omega (low, arith)

pub each-preserved : goal.each-preserved
each-preserved c = record {
  whole = across-step c.args.number c.each.at c.widest.result c.each.rest.now c.in-Some.after.now c.in-Some.block.now
      c.as_slice-in-Some.result.now c.as_slice.result.now _ _ _ c.line_of.result.now c.each.invariant.whole
      (search rules) (search rules) c.widest.ensures (search rules) c.line_of.ensures c.in_ok-put.ensures;
  narrow = let narrow = c.each.invariant.narrow in let same = next (goal.at.each-preserved c).After-widest in
      omega (narrow, same, arith);
}

pub returns : goal.returns
returns c = across-all c.args.number c.each.at c.each.rest.now _ _ c.each.invariant.whole (search rules)
