use Rattle.rv_run.proofs.Common.{◌∙◌, ◌≡◌}
use Rattle.rv_run.specs.InTurn.{streams_left}
use Rattle.rv_run.proofs.InTurn.{refused-judged, whole-judged}
use Rattle.rv_run.proofs.in_turn.judge_all.Goals as goal

-- Of sources that were read whole.
pub returns-in_ok-tell_allowed-in-None-clause-judged :
    goal.returns-in_ok-tell_allowed-in-None-clause-judged
returns-in_ok-tell_allowed-in-None-clause-judged g c =
    let model : c.take_all.new.book.model ≡ c.args.question.model = c.in_ok-take_all.ensures.model ∙ c.requires.model in
    let taken = rw c.in-None.is at c.in_ok-take_all.ensures.end in
    let told = rw model at c.in_ok-tell_allowed-in-None.ensures in
    let lacking = c.in_ok-missing-in-None.ensures in
    whole-judged c.args.question (streams_left c.args.sources.now) c.take_all.new.book.log c.take_all.new.sources taken
    c.in_ok-tell_allowed-in-None.field-0 told.outcome told.allowed told.coverage told.asked told.only
    (λ asks. rw told.missing (lacking.lacks asks)) (rw told.missing lacking.only) told.strength told.tested
    told.untested

-- Of sources that are refused.
pub returns-in-Some-clause-judged : goal.returns-in-Some-clause-judged
returns-in-Some-clause-judged g c =
    let refused = rw (c.in-Some.is, c.requires.model) at c.in_ok-take_all.ensures.end in
    rw c.refused.ensures
    (refused-judged c.args.question (streams_left c.args.sources.now) c.in-Some.outcome refused)
