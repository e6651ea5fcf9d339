use Rattle.rv_versions.proofs.Common.{rules, same_Some}
use Rattle.rv_versions.proofs.Neighbours.{parted_by_either}
use Rattle.rv_versions.proofs.accesses.Accesses.unparted_from.Goals as goal

pub returns-in-Some-foreign_lower_store-clause-unparted : goal.returns-in-Some-foreign_lower_store-clause-unparted
returns-in-Some-foreign_lower_store-clause-unparted c n e sc pair low under other =
    parted_by_either c.args.self.now.stores c.in-Some.version n c.in-Some-lower.first
    c.in-Some-foreign_lower_store.second sc (search (same_Some, rules)) c.in-Some-lower.ensures.found
    c.in-Some-foreign_lower_store.ensures.below under
