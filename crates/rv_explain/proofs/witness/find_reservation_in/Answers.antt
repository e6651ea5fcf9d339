use Rattle.std.proofs.Common.{arith}
use Rattle.rv_event.specs.Log.{events}
use Rattle.rv_explain.proofs.Firsts.{first-found, none-left}
use Rattle.rv_explain.specs.Witnesses.{IsReservationIn}
use Rattle.rv_explain.proofs.witness.find_reservation_in.Goals as goal

pub returns-then-is_reservation_in-clause-some : goal.returns-then-is_reservation_in-clause-some
returns-then-is_reservation_in-clause-some c =
    first-found (λ m. IsReservationIn (events c.args.log.now) c.args.a.now c.args.b.now m) c.args.log.now
    c.loop-entry.entry-index c.entry-item.result (let low = c.loop-entry-test.true in omega (low, arith))
    c.entry-item.is c.loop-entry.invariant (c.is_reservation_in.ensures.0 c.if-is_reservation_in.true)

pub returns-clause-none : goal.returns-clause-none
returns-clause-none c =
    none-left (λ m. IsReservationIn (events c.args.log.now) c.args.a.now c.args.b.now m) c.args.log.now
    c.loop-entry.entry-index (λ low. let end = c.loop-entry-test.false in omega (low, end, arith))
    c.loop-entry.invariant
