use Rattle.std.proofs.lemmas.Grind.{common_steps}
use Rattle.std.proofs.Common.{rules, arith}
use Rattle.rv_trace.proofs.Digits.{decimal_from-is, digit-more, digit-end, power-step}
use Rattle.rv_trace.proofs.number.decimal.Goals as goal
use Rattle.rv_trace.proofs.number.decimal.Goals.{then-b-lt48-via-then-b-lt48}
use Rattle.rv_trace.proofs.number.decimal.Goals.{then-b-lt48-via-else-b-lt48+then-b-gt57}

pub returns-then-b-lt48 : goal.returns-then-b-lt48
returns-then-b-lt48 c = grind (arith, common_steps)

pub loop-b-preserved : goal.loop-b-preserved
loop-b-preserved c = grind (arith, common_steps, digit-more, power-step)

pub returns : goal.returns
returns c = search (digit-end, decimal_from-is, rules)
