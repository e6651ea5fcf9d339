use Rattle.rv_hart.proofs.DependencyRows.{one-dependency}
use Rattle.rv_hart.proofs.sets.add_dependency.Goals as goal

pub returns : goal.returns
returns c =
    one-dependency c.args.row.now c.insert_if.new.row c.join_into.new.row c.args.loads.now c.args.stores.now
    c.args.carried.now c.args.number c.has_either.result c.has_either.ensures c.insert_if.ensures c.join_into.ensures
