-- The hart's source is the entry's, and its source has one more.
use Rattle.std.proofs.Common.{rules}
use Rattle.rv_book.proofs.Tallies.{tallied_push, one_more}
use Rattle.rv_book.proofs.tally.Tally.add.Goals as goal

pub returns : goal.returns
returns c log known few sound = search (tallied_push, one_more, rules)
