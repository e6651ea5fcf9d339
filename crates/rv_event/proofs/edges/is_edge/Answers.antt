use Rattle.std.proofs.Common.{rules}
use Rattle.rv_event.proofs.Names.{named-is}
use Rattle.rv_event.proofs.edges.is_edge.Goals as goal

pub is_reason-requires-clause-from : goal.is_reason-requires-clause-from
is_reason-requires-clause-from c = search (named-is, rules)

pub is_reason-requires-clause-to : goal.is_reason-requires-clause-to
is_reason-requires-clause-to c = search (named-is, rules)
