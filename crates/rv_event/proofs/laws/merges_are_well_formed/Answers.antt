use Rattle.rv_event.proofs.Sources.{WellFormed-sources}
use Rattle.rv_event.proofs.laws.merges_are_well_formed.Goals as goal

pub returns : goal.returns
returns c log other ok same = WellFormed-sources log other ok same
