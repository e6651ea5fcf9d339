use Rattle.std.proofs.Common.{rules}
use Rattle.rv_book.proofs.TakenEvents.{stops-first, turn-rest}
use Rattle.rv_book.proofs.book.Book.offer_chunk.Goals as goal

pub returns-in-Err-clause-no_memory : goal.returns-in-Err-clause-no_memory
returns-in-Err-clause-no_memory c = search (stops-first, turn-rest, rules)
