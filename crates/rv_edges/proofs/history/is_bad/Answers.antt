-- What a look at the hart's events gives.
use Rattle.rv_edges.proofs.Common.{ap, ◌∙◌, is_bad_on}
use Rattle.rv_edges.proofs.history.is_bad.Goals as goal

pub returns : goal.returns
returns c = c.is_bad_dependency.ensures ∙ ap (is_bad_on c.args.event.now c.args.dep) c.get.ensures
