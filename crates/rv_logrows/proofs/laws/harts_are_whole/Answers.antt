use Rattle.rv_logrows.proofs.Whole.{begun, given-one, retired}
use Rattle.rv_logrows.proofs.laws.harts_are_whole.Goals as goal

pub returns : goal.returns
returns c issued performed = (
  begun c.rows_are_whole.ensures issued performed,
  λ done given old new many whole. (
    retired c.rows_are_whole.ensures many whole,
    given-one c.rows_are_whole.ensures many whole,
  ),
)
