use Rattle.rv_cli.proofs.Common.{rules, codes, first_value-rows}
use Rattle.rv_cli.proofs.words.text_in.Goals as goal

pub returns-in_ok-from_str-in-Some : goal.returns-in_ok-from_str-in-Some
returns-in_ok-from_str-in-Some c = search (first_value-rows, codes, rules)

pub returns-in-None : goal.returns-in-None
returns-in-None c = search (first_value-rows, codes, rules)
