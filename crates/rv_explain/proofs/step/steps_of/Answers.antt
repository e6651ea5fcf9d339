use Rattle.std.proofs.Common.{rules, refl, ◌++◌, ◌∷◌, []}
use Rattle.rv_explain.proofs.Walks.{steps-all, steps-next, walk-closed, walk-rest, walk-split}
use Rattle.rv_explain.proofs.step.steps_of.Goals as goal

pub edges-init : goal.edges-init
edges-init c = record {
  front = [];
  split = refl;
  steps = search rules;
  model = c.requires.0;
  walk = search (walk-closed, rules);
}

pub edges-preserved : goal.edges-preserved
edges-preserved c = record {
  front = c.edges.invariant.front ++ c.in-Some-split_first.edge.now ∷ [];
  split = walk-split c.args.edges.now c.edges.invariant.front c.edges.rest.now c.in-Some-split_first.edge.now
      c.in-Some-split_first.after.now c.edges.invariant.split (search rules);
  steps = search (steps-next, rules);
  model = c.edges.invariant.model;
  walk = search (walk-rest, rules);
}

pub returns : goal.returns
returns c = search (steps-all, rules)
