use Rattle.std.proofs.Common.{◌≡◌, ◌≤◌, ◌+◌, ◌∙◌, arith, length, rules, suc}
use Rattle.std.proofs.lemmas.Bool.{false≢true, le-leb, leb-true}
use Rattle.rv_explain.proofs.Layouts.{end-all, end-bound, end-step, room-from}
use Rattle.rv_explain.specs.Layout.{HaveRoom, blocks_text, end_of}
use Rattle.rv_explain.proofs.layout.have_room.Goals as goal

pub returns-then-width-gt-ROOM : goal.returns-then-width-gt-ROOM
returns-then-width-gt-ROOM c = (λ yes. absurd (false≢true yes), λ room. absurd (too-wide room))
  where
    next : end_of c.each.at (blocks_text c.each.rest.now) ≡
        end_of (c.each.at + (c.widest-width.result + 3)) (blocks_text c.in-Some.after.now)
    next = end-step c.each.at c.widest-width.result c.each.rest.now c.in-Some.after.now c.in-Some.block.now
        c.as_slice.result.now (search rules) (search rules) c.widest-width.ensures

    too-wide : HaveRoom (blocks_text c.args.blocks.now) → ⊥
    too-wide room =
        let bound = end-bound c.each.at c.widest-width.result (end_of 2 (blocks_text c.args.blocks.now))
        c.in-Some.after.now (c.each.invariant.end ∙ next) in
        let narrow = room.narrow in
        let wide = c.if-width-gt-ROOM.true in
        omega (bound, narrow, wide, arith)

pub each-preserved : goal.each-preserved
each-preserved c = record {
  end = c.each.invariant.end ∙ end-step c.each.at c.widest-width.result c.each.rest.now c.in-Some.after.now
      c.in-Some.block.now c.as_slice.result.now (search rules) (search rules) c.widest-width.ensures;
  small =
      let small = c.each.invariant.small in
      let low = c.if-width-gt-ROOM.false in
      let count : length c.each.rest.now ≡ suc (length c.in-Some.after.now) = search rules in
      omega (small, low, count, arith);
}

pub returns : goal.returns
returns c = (
  λ yes. room-from c.args.blocks.now c.each.at few end (leb-true c.each.at 103 yes),
  λ room. le-leb c.each.at 103 (let narrow = room.narrow in omega (narrow, end, arith)),
)
  where
    few : length c.args.blocks.now ≤ 3
    few = let not = c.if-blocks-gt3.false in omega (not, arith)

    end : end_of 2 (blocks_text c.args.blocks.now) ≡ c.each.at
    end = end-all (end_of 2 (blocks_text c.args.blocks.now)) c.each.at c.each.rest.now c.each.invariant.end
        (search rules)
