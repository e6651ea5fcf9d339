use Rattle.std.proofs.Common.{arith}
use Rattle.std.proofs.lemmas.Grind.{common_steps}
use Rattle.std.proofs.Common.{refl}
use Rattle.rv_report.proofs.JsonEdges.{data_more, data_done}
use Rattle.rv_report.proofs.json_report.edge_values.Goals as goal

pub edges-preserved : goal.edges-preserved
edges-preserved c = grind (arith, common_steps, data_more)

pub returns : goal.returns
returns c =
    data_done _ c.edges.rest.now c.args.steps.now c.in-Some.first.now c.in-Some.field-0-1.now c.in-Some.first.now.0
    c.edges.invariant c.in_default-split_first.ensures.cases c.in-Some.ensures.cases.0 refl
