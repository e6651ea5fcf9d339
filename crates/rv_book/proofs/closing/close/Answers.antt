use Rattle.rv_book.proofs.Common.{common_steps, arith, events}
use Rattle.rv_book.proofs.IdWalks.{walk_step}
use Rattle.rv_book.proofs.closing.close.Goals as goal

pub reason_of-reason-requires : goal.reason_of-reason-requires
reason_of-reason-requires c = rw c.next_of.ensures (c.requires.leads c.loop-k.k (omega arith))

pub loop-k-preserved : goal.loop-k-preserved
loop-k-preserved c = walk_step c.args.model (events c.args.log.now) c.args.ids.now c.loop-k.steps.items
    c.push.new.self.items c.loop-k.k c.reason_of-reason.result (omega arith) c.loop-k.invariant
    (rw c.next_of.ensures at c.reason_of-reason.ensures) c.in_ok-push.ensures.items

pub returns-clause-closed : goal.returns-clause-closed
returns-clause-closed c = grind (arith, common_steps)
