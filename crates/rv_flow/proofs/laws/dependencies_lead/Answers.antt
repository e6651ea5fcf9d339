use Rattle.rv_flow.proofs.Paths.{dependencies-lead}
use Rattle.rv_flow.proofs.laws.dependencies_lead.Goals as goal

pub returns : goal.returns
returns c = dependencies-lead
