use Rattle.rv_cli.proofs.Common.{List, rules, subst, Row, rows_of, SaysAsked}
use Rattle.std.specs.Prelude.{IsSome}
use Rattle.clap.specs.Words.{found_of}
use Rattle.rv_cli.specs.Answers.{IsBesideList}
use Rattle.rv_cli.proofs.words.asked.Goals as goal

pub returns-then-is_for_one_trace-clause-answer : goal.returns-then-is_for_one_trace-clause-answer
returns-then-is_for_one_trace-clause-answer c =
    let parsed = c.in_ok-matches.ensures in
    let named : IsSome c.in_ok-asked.asked.list_file = search rules in
    let beside : IsBesideList (rows_of (found_of c.in_ok-matches.matches)) = (
      c.in_ok-asked.asked,
      c.in_ok-asked.ensures.said,
      named,
      c.is_for_one_trace.ensures.yes c.if-is_for_one_trace.true,
    ) in
    (parsed.0, parsed.1, (parsed.2.0, subst IsBesideList parsed.2.1 beside))

pub returns-clause-answer : goal.returns-clause-answer
returns-clause-answer c =
    let parsed = c.in_ok-matches.ensures in
    let asked = c.in_ok-asked.asked in (
      parsed.0,
      parsed.1,
      (
        parsed.2.0,
        subst (λ (rows : List Row). SaysAsked rows asked) parsed.2.1
            c.in_ok-asked.ensures.said,
      ),
    )
