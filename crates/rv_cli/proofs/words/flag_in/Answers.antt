use Rattle.rv_cli.proofs.Common.{rules, codes, first_value-rows}
use Rattle.rv_cli.proofs.words.flag_in.Goals as goal

pub returns-in-Some : goal.returns-in-Some
returns-in-Some c = search (first_value-rows, codes, rules)

pub returns-in-None : goal.returns-in-None
returns-in-None c = search (first_value-rows, codes, rules)
