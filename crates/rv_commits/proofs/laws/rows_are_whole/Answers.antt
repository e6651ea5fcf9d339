use Rattle.rv_commits.proofs.Whole.{begun, given-one, retired}
use Rattle.rv_commits.proofs.laws.rows_are_whole.Goals as goal

pub returns : goal.returns
returns c issued performed = (begun, λ done given old new whole. (retired whole, given-one whole))
