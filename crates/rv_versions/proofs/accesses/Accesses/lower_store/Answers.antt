use Rattle.rv_versions.proofs.Common.{rules, same_Some}
use Rattle.rv_versions.proofs.Neighbours.{below_some, below_none}
use Rattle.rv_versions.proofs.accesses.Accesses.lower_store.Goals as goal

pub returns-in-Some-lower : goal.returns-in-Some-lower
returns-in-Some-lower c n e =
    below_some c.args.self.now.stores c.in-Some.version n (search (same_Some, rules)) c.in-Some-lower.store
    c.in-Some-lower.ensures.found

pub returns-in-None : goal.returns-in-None
returns-in-None c n e =
    below_none c.args.self.now.stores c.in-Some.version n (search (same_Some, rules)) c.in-None.ensures.found
