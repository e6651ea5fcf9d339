use Rattle.rv_cli.proofs.Common.{rules, texts}
use Rattle.clap.specs.Words.{app_of}
use Rattle.rv_cli.proofs.Values.{parses, unmade}
use Rattle.rv_cli.proofs.words.matches_in.Goals as goal

pub returns-in_err-command_of : goal.returns-in_err-command_of
returns-in_err-command_of c = search (unmade, rules)

pub returns : goal.returns
returns c =
    let command = c.in_ok-command_of.field-0 in
    let made = c.in_ok-command_of.ensures in
    let parse = c.try_get_matches_from in
    let e = parse.ensures in (
      app_of command,
      made,
      parses command (texts c.args.words.now) parse.result made e.parsed e.matches e.kinds,
    )
