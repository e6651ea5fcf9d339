use Rattle.rv_run.proofs.missing.MissingDisplay.fmt.Goals as goal

pub returns-in-Rows-clause-writes : goal.returns-in-Rows-clause-writes
returns-in-Rows-clause-writes g c plain ok = rw c.in-Rows.is (c.write-in-Rows.ensures.writes plain ok)
