-- What is wanted is in the mark, place by place.
use Rattle.std.proofs.lemmas.Bool.{eqb-true}
use Rattle.rv_cut.proofs.Places.{and-all}
use Rattle.rv_cut.proofs.reach.has_places.Goals as goal

pub returns : goal.returns
returns c = λ same. and-all c.args.mark c.args.wanted (eqb-true _ c.args.wanted same)
