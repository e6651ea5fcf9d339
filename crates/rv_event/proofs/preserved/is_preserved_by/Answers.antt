use Rattle.std.proofs.Common.{rules}
use Rattle.rv_event.proofs.Names.{named-is}
use Rattle.rv_event.proofs.preserved.is_preserved_by.Goals as goal

pub is_rule-requires-clause-from : goal.is_rule-requires-clause-from
is_rule-requires-clause-from c = search (named-is, rules)

pub is_rule-requires-clause-to : goal.is_rule-requires-clause-to
is_rule-requires-clause-to c = search (named-is, rules)
