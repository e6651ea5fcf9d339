use Rattle.rv_book.proofs.SourcePrefixes.{continues}
use Rattle.rv_book.proofs.laws.chunks_continue.Goals as goal

pub returns : goal.returns
returns c old new chunk all answer told of begun = continues old new chunk all of begun answer told
