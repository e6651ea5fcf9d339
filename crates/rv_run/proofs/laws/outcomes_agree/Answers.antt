use Rattle.rv_run.proofs.Outcomes.{passes-agree, runs-agree}
use Rattle.rv_run.proofs.laws.outcomes_agree.Goals as goal

pub returns-clause-runs : goal.returns-clause-runs
returns-clause-runs c = runs-agree

pub returns-clause-passes : goal.returns-clause-passes
returns-clause-passes c = passes-agree
