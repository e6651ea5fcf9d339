use Rattle.std.proofs.Common.{arith}
use Rattle.std.proofs.lemmas.Grind.{common_steps}
use Rattle.rv_rows.proofs.Words.{has-set}
use Rattle.rv_rows.proofs.bit_set.BitSet.insert.Goals as goal

pub returns-clause-inserted : goal.returns-clause-inserted
returns-clause-inserted c j = grind (arith, common_steps, has-set)
