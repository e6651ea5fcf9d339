use Rattle.std.proofs.Common.{rules}
use Rattle.rv_trace.proofs.Skipped.{behind-found, behind-next, behind-none}
use Rattle.rv_trace.proofs.column.reach.Goals as goal

pub returns-then-not-branch : goal.returns-then-not-branch
returns-then-not-branch g c = search (behind-none, rules)

pub records-preserved : goal.records-preserved
records-preserved g c = search (behind-next, rules)

pub returns : goal.returns
returns g c = search (behind-found, behind-none, rules)
