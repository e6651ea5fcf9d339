use Rattle.std.proofs.Common.{rules}
use Rattle.rv_rows.proofs.Laying.{rows_count}
use Rattle.rv_rows.proofs.rows.Rows.len.Goals as goal

pub returns : goal.returns
returns c = search (rows_count, rules)
