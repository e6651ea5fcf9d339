use Rattle.std.proofs.Common.{arith, rules}
use Rattle.std.proofs.lemmas.Grind.{common_steps}
use Rattle.rv_chunk.proofs.ChunkTest.{length_read}
use Rattle.rv_chunk.proofs.chunk.Chunk.count.Goals as goal

pub returns-clause-events : goal.returns-clause-events
returns-clause-events c = search (length_read, rules)

pub returns-clause-few : goal.returns-clause-few
returns-clause-few c = grind (arith, common_steps)
