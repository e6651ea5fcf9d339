use Rattle.std.proofs.Common.{◌++◌, IfSome, Ok, ap, arith, inr, subst}
use Rattle.rv_commits.specs.Queues.{IsCarrierNext, IsFirst, IsFront, IsNextCarrier}
use Rattle.rv_commits.proofs.Merging.{carrier-given, carrier-room, row-room}
use Rattle.rv_commits.proofs.queue.WaitingHart.next_row.Goals.{In-Some}
use Rattle.rv_commits.proofs.queue.WaitingHart.next_row.Goals as goal

-- the carrier that is next
next : (c : In-Some) → IsCarrierNext c.args.self.now c.in-Some.row
next c = subst (IsNextCarrier c.args.self.now) c.in-Some.is c.in-Ok.ensures.next

pub overflow_add-self-in-Some : goal.overflow_add-self-in-Some
overflow_add-self-in-Some c =
    let room = carrier-room c.args.self.now c.requires.numbers c.in-Some.row
    (next (goal.at.overflow_add-self-in-Some c).In-Some) in
    omega (room, arith)

pub returns-in-Some-clause-numbers : goal.returns-in-Some-clause-numbers
returns-in-Some-clause-numbers c = carrier-given c.args.self.now c.requires.numbers c.in-Some.row
    (next (goal.at.returns-in-Some-clause-numbers c).In-Some)

pub returns-in_default-settled-clause-waits : goal.returns-in_default-settled-clause-waits
returns-in_default-settled-clause-waits c = λ issued performed is at none. (
  c.in-Ok-settled.ensures.waits issued performed is at (ap Ok c.in_default-settled.is),
  c.in-Ok-settled.ensures.still (ap Ok c.in_default-settled.is),
)

pub overflow_add-self-2 : goal.overflow_add-self-2
overflow_add-self-2 c =
    let front = subst
    (λ o. IfSome o (IsFront c.args.self.now.queue.items c.settled.new.self.queue.items)) c.in-Some-settled.is
    c.in-Ok-settled.ensures.taken in
    let room = row-room c.args.self.now c.requires.numbers front.first c.settled.new.self.queue.items front.queue
    (subst (IsNextCarrier c.args.self.now) c.in_default.is c.in-Ok.ensures.next) in
    let same = c.in-Ok-settled.ensures.given.0 in
    omega (room, same, arith)

pub returns-clause-given : goal.returns-clause-given
returns-clause-given c = λ issued more performed later is grow at. inr
    (subst (λ o. IfSome o (IsFirst (issued ++ more) (performed ++ later) c.args.initial c.args.self.now.queue.items
    c.settled.new.self.queue.items)) c.in-Some-settled.is
    (c.in-Ok-settled.ensures.first issued more performed later is grow at))
