use Rattle.std.proofs.Common.{rules}
use Rattle.rv_explain.proofs.Rules.{address_at, branch_at, fence_at, write_at}
use Rattle.rv_explain.proofs.witness.is_rule_witness.Goals as goal

pub returns-in-4 : goal.returns-in-4
returns-in-4 c = search (fence_at, rules)

pub returns-in-11 : goal.returns-in-11
returns-in-11 c = search (branch_at, rules)

pub returns-in-12 : goal.returns-in-12
returns-in-12 c = search (write_at, rules)

pub returns-in-13 : goal.returns-in-13
returns-in-13 c = search (address_at, rules)
