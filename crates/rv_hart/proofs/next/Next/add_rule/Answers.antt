-- The two parts of the rule's line of the table are what it orders.
use Rattle.rv_hart.proofs.TableParts.{adds-parts}
use Rattle.rv_hart.proofs.HartFacts.{fits}
use Rattle.rv_hart.proofs.next.Next.add_rule.Goals as goal

pub returns : goal.returns
returns c =
    adds-parts (fits c.requires.asked) c.requires.asked.memory c.args.rule c.parts-one.result.0 c.parts-one.result.1
    c.args.row.now c.add_part.new.row c.add_part-2.new.row c.parts-one.ensures c.add_part.ensures c.add_part-2.ensures
