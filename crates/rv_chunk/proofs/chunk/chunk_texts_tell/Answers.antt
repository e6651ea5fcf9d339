use Rattle.rv_chunk.proofs.ChunkTest.{chunk_text_from_test, test_from_chunk_text}
use Rattle.rv_chunk.proofs.ChunkBack.{same_text}
use Rattle.rv_chunk.proofs.chunk.chunk_texts_tell.Goals as goal

pub returns-clause-test : goal.returns-clause-test
returns-clause-test c ws = (chunk_text_from_test ws, test_from_chunk_text ws)

pub returns-clause-differ : goal.returns-clause-differ
returns-clause-differ c = same_text
