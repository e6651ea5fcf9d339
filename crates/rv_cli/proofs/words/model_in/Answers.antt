use Rattle.std.proofs.Common.{rules}
use Rattle.rv_cli.proofs.Getters.{model_other, model_tso}
use Rattle.rv_cli.proofs.words.model_in.Goals as goal

pub returns-then-eq : goal.returns-then-eq
returns-then-eq c = search (model_tso, rules)

pub returns-else-eq : goal.returns-else-eq
returns-else-eq c = search (model_other, rules)
