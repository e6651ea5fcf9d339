use Rattle.rv_logrows.proofs.log.LogRows.next_row.Goals as goal

pub returns-clause-waits : goal.returns-clause-waits
returns-clause-waits c = λ issued performed log at none. c.next_row.ensures.waits issued performed log.memory at none
