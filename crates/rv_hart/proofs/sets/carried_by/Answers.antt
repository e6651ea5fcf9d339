use Rattle.rv_hart.proofs.GrownSets.{carrier-absorbed}
use Rattle.rv_hart.proofs.HartFacts.{fits_of}
use Rattle.rv_hart.proofs.sets.carried_by.Goals as goal

pub returns : goal.returns
returns c = λ h ok follows carried sets.
    carrier-absorbed (fits_of h c.args.event.now ok follows) c.args.sets.now.loads c.args.sets.now.stores
    c.new-row.result c.add_dependencies.new.row c.args.carried.now sets.loads sets.stores carried
    c.requires.carrier c.new-row.ensures c.add_dependencies.ensures
