use Rattle.std.proofs.Common.{◌∙◌, rules}
use Rattle.std.proofs.lemmas.Iterator.Consumers.{YieldsList-end}
use Rattle.std.proofs.lemmas.Iterator.Splits.{YieldsList-from_lines}
use Rattle.rv_picture.proofs.escape.lines_of.Goals as goal

pub returns : goal.returns
returns c =
    let all = YieldsList-from_lines {s = c.into_iter-line-iterator.result} c.args.text.now (search rules) in
    let end = YieldsList-end all
    c.lines.yielded _ c.lines.yielded_by _ _ c.in-None.is c.next.ensures.steps in
    c.lines.invariant ∙ end.0
