use Rattle.rv_commits.proofs.Carried.{behind-depends, depends-behind}
use Rattle.rv_commits.proofs.laws.rows_depend_as_listed.Goals as goal

pub returns : goal.returns
returns c hart carriers rows are kind e parts of-hart lists before a ca apart = (
  depends-behind are kind e parts of-hart lists before a ca apart,
  behind-depends are kind e parts of-hart lists before a ca apart,
)
