use Rattle.std.proofs.Common.{◌∙◌, ◌++◌, List, ℕ, ap, arith, string_bytes, sym}
use Rattle.rv_picture.specs.Pages.{line_text}
use Rattle.rv_picture.proofs.Numbers.{numbered-all, numbered-map, numbered-next}
use Rattle.rv_picture.proofs.page.push_lines.Goals as goal

pub lines-preserved : goal.lines-preserved
lines-preserved c =
    numbered-next (λ n s. line_text n (string_bytes s)) _ (string_bytes c.lines.text)
    (string_bytes c.push_line.new.text)
    c.args.lines.now c.lines.number c.lines.number c.index-lines-number.result
    (let low = c.lines-test.true in omega (low, arith)) c.index-lines-number.is c.lines.invariant
    c.in_ok-push_line.ensures

pub returns : goal.returns
returns c =
    numbered-all (λ n s. line_text n (string_bytes s)) _ _ c.args.lines.now c.lines.number c.lines.number
    (λ low. let end = c.lines-test.false in omega (low, end, arith)) c.lines.invariant
    ∙ ap (λ (t : List ℕ). string_bytes c.args.text.now ++ t)
    (sym (numbered-map line_text string_bytes 0 c.args.lines.now))
