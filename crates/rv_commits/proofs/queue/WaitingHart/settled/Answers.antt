use Rattle.std.proofs.Common.{◌<◌, Ok, ap, arith, length, refl}
use Rattle.rv_commits.proofs.Valued.{first-open, first-refused}
use Rattle.rv_commits.specs.Settled.{is_ended}
use Rattle.rv_commits.proofs.queue.WaitingHart.settled.Goals.{In-Some}
use Rattle.rv_commits.proofs.queue.WaitingHart.settled.Goals as goal

-- a row waits
some : (c : In-Some) → 0 < length c.args.self.now.queue.items
some c =
    let low = c.in-Some.ensures.variant.0 refl in
    let long = c.args.self.now.queue.ok.0 in
    omega (low, long, arith)

pub returns-in-Ok-false-clause-waits : goal.returns-in-Ok-false-clause-waits
returns-in-Ok-false-clause-waits c = λ issued performed is at none.
    first-open issued performed c.args.initial (is_ended c.args.stage.now) c.in-Some.front.now
    c.args.self.now.queue.items (some (goal.at.returns-in-Ok-false-clause-waits c).In-Some) c.in-Some.ensures.value
    (c.in-Ok-false.ensures.waits issued performed is at (ap Ok c.in-Ok-false.field-0-test))

pub returns-in-Err-clause-refused : goal.returns-in-Err-clause-refused
returns-in-Err-clause-refused c = λ issued performed is at.
    first-refused issued performed c.args.initial c.in-Err.fault c.in-Some.front.now c.args.self.now.queue.items
    (some (goal.at.returns-in-Err-clause-refused c).In-Some) c.in-Some.ensures.value
    (c.in-Err.ensures.refused issued performed is at)
