use Rattle.std.proofs.Common.{arith}
use Rattle.rv_event.specs.Log.{events}
use Rattle.rv_explain.proofs.Firsts.{first-found, none-left}
use Rattle.rv_explain.specs.Witnesses.{IsReservationOut}
use Rattle.rv_explain.proofs.witness.find_reservation_out.Goals as goal

pub returns-then-is_reservation_out-clause-some : goal.returns-then-is_reservation_out-clause-some
returns-then-is_reservation_out-clause-some c =
    first-found (λ m. IsReservationOut (events c.args.log.now) c.args.a.now c.args.b.now m) c.args.log.now
    c.loop-entry.entry-index c.entry-item.result (let low = c.loop-entry-test.true in omega (low, arith))
    c.entry-item.is c.loop-entry.invariant (c.is_reservation_out.ensures.0 c.if-is_reservation_out.true)

pub returns-clause-none : goal.returns-clause-none
returns-clause-none c =
    none-left (λ m. IsReservationOut (events c.args.log.now) c.args.a.now c.args.b.now m) c.args.log.now
    c.loop-entry.entry-index (λ low. let end = c.loop-entry-test.false in omega (low, end, arith))
    c.loop-entry.invariant
