use Rattle.rv_rows.proofs.Sweep.{sweeps}
use Rattle.rv_rows.proofs.laws.sweeps_thin.Goals as goal

pub returns : goal.returns
returns c rows candidates taken closed own swept = sweeps rows candidates closed own taken swept
