use Rattle.rv_book.proofs.Common.{◌≡◌, take, events, IsWalk, walked}
use Rattle.rv_book.proofs.IdWalks.{end_at}
use Rattle.rv_book.proofs.closing.close.Given as goal

abbrev pub invariant-loop-k : goal.invariant-loop-k
invariant-loop-k l = (walked l.steps.items ≡ take l.k l.ids) × IsWalk l.model (events l.log) l.steps.items
    (end_at l.ids l.k)
