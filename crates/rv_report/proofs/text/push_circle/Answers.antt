use Rattle.std.proofs.Common.{rules}
use Rattle.rv_report.proofs.Circles.{edge_more, edges_done}
use Rattle.rv_report.proofs.text.push_circle.Goals as goal

pub edges-preserved : goal.edges-preserved
edges-preserved c = search (edge_more, rules)

pub returns : goal.returns
returns c = search (edges_done, rules)
