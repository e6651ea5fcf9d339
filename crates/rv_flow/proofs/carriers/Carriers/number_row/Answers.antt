use Rattle.rv_flow.proofs.Growing.{row-more}
use Rattle.rv_flow.proofs.carriers.Carriers.number_row.Goals as goal

-- src/carriers.rt:83:5
pub returns-clause-grown : goal.returns-clause-grown
returns-clause-grown c =
    row-more c.args.self.now.all.items c.args.self.now.next c.requires.carriers c.if-self-ge-MOST_ROWS.false
