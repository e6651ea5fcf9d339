use Rattle.std.proofs.Common.{rules}
use Rattle.rv_chunk.proofs.ChunkRead.{some_code_up_to}
use Rattle.rv_chunk.proofs.codes.dep_code_at.Goals as goal

pub returns-else-contains : goal.returns-else-contains
returns-else-contains c = search (some_code_up_to, rules)
