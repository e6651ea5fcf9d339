use Rattle.rv_pipe.proofs.FirstRow.{all-ends, no-feed, rest-is, to-feed}
use Rattle.std.proofs.Common.{◌∙◌, ◌==◌, ap, sym}
use Rattle.std.specs.List.{position}
use Rattle.rv_pipe.proofs.lines.row_end.Goals as goal

pub returns-in-Some-find_feed-clause-end : goal.returns-in-Some-find_feed-clause-end
returns-in-Some-find_feed-clause-end c =
    let text-is = sym c.find_text.ensures ∙ c.in-Some.is in
    to-feed c.args.bytes.now c.in-Some.text text-is c.in-Some-find_feed.feed
    (ap (position (λ byte. byte == 10)) (sym (rest-is c.args.bytes.now c.in-Some.text text-is))
    ∙ sym c.find_feed.ensures ∙ c.in-Some-find_feed.is)

pub returns-in-None-clause-end : goal.returns-in-None-clause-end
returns-in-None-clause-end c =
    let text-is = sym c.find_text.ensures ∙ c.in-Some.is in
    no-feed c.args.bytes.now c.in-Some.text text-is
    (ap (position (λ byte. byte == 10)) (sym (rest-is c.args.bytes.now c.in-Some.text text-is))
    ∙ sym c.find_feed.ensures ∙ c.in-None.is)

pub returns-in_default-clause-end : goal.returns-in_default-clause-end
returns-in_default-clause-end c = all-ends c.args.bytes.now (sym c.find_text.ensures ∙ c.in_default.is)
