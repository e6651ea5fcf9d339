use Rattle.std.proofs.Common.{rules, ◌≡◌, None}
use Rattle.clap.specs.Walk.{texts}
use Rattle.rvmon.proofs.Ends.{ends_asked}
use Rattle.rvmon.proofs.answer_words.Goals as goal

pub returns-else-is_some : goal.returns-else-is_some
returns-else-is_some g c =
    let alone : c.in-Ok.asked.list_file ≡ None = search rules in
    ends_asked (g.O.Opener.known c.args.opener.now) (texts c.args.words.now) c.in-Ok.asked c.answer-ending.result
    c.form_of-form.result c.in-Ok.ensures.answer alone c.form_of-form.ensures c.answer-ending.ensures
