use Rattle.rv_event.proofs.Common.{length-map, filter, length-filter}
use Rattle.rv_event.proofs.Growing.{filter-map}
use Rattle.rv_event.proofs.faults.count_of_hart.Goals as goal

pub returns-clause-count : goal.returns-clause-count
returns-clause-count c = search (filter-map, length-map, filter, length-filter)
