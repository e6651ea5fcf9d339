use Rattle.std.proofs.Common.{◌+◌, arith, string_bytes}
use Rattle.rv_picture.specs.Arrows.{label_text}
use Rattle.rv_picture.proofs.Numbers.{numbered-all, numbered-at}
use Rattle.rv_picture.proofs.drawing.push_labels.Goals as goal

pub arrows-preserved : goal.arrows-preserved
arrows-preserved c =
    numbered-at (label_text c.args.grid.width) _ (string_bytes c.arrows.text) (string_bytes c.push_label.new.text)
    c.args.arrows.now (c.arrows.place + 1) c.arrows.place _
    (let low = c.arrows-test.true in omega (low, arith)) c.arrows.invariant c.in_ok-push_label.ensures

pub returns : goal.returns
returns c =
    numbered-all (label_text c.args.grid.width) _ _ c.args.arrows.now (c.arrows.place + 1) c.arrows.place
    (λ low. let end = c.arrows-test.false in omega (low, end, arith)) c.arrows.invariant
