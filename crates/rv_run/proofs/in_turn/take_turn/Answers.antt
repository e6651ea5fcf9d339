use Rattle.rv_run.proofs.Common.{IsTaken, rules}
use Rattle.rv_run.specs.InTurn.{entry_of}
use Rattle.rv_run.proofs.InTurn.{turn-goes-on}
use Rattle.rv_run.proofs.in_turn.take_turn.Goals as goal

-- The log grows by what the source gives.
pub loop-preserved : goal.loop-preserved
loop-preserved g c =
    let next = rw c.in-Ok-Event.field-0-is at c.in-Ok-Event.ensures.next in
    let taken : IsTaken c.loop.book c.take.new.book (entry_of c.args.number c.in-Ok-Event.event) = search rules in
    turn-goes-on c.args.number c.args.source.now c.loop.source c.next_due.new.self c.args.book.now c.loop.book
    c.take.new.book c.in-Ok-Event.event c.loop.invariant next.0 next.1 taken.log taken.model taken.stopped
