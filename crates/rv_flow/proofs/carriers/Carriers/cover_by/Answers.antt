use Rattle.std.proofs.Common.{sym, arith, Contains}
use Rattle.rv_rows.specs.Bits.{Has}
use Rattle.rv_flow.specs.declared.carrier.Carrier.{Carrier}
use Rattle.rv_flow.proofs.Growing.{one-part}
use Rattle.rv_flow.proofs.Sets.{has-joined}
use Rattle.rv_flow.proofs.carriers.Carriers.cover_by.Goals as goal

-- src/carriers.rt:176:5
pub returns-in_ok-push-clause-list : goal.returns-in_ok-push-clause-list
returns-in_ok-push-clause-list c =
    one-part c.args.self.now.all.items c.args.self.now.next c.args.list.now
    (record { parts = c.push.new.self; events = c.join.new.self }) carrier.number (λ n. Has carrier.list.events n)
    c.requires.list (let room = c.if-len-ge-MOST_PARTS.false in omega (room, arith))
    (c.requires.carriers.before carrier one) (c.requires.carriers.each carrier one).events
    c.in_ok-push.ensures.items
    (has-joined c.args.list.now.events carrier.list.events c.join.new.self c.join.ensures)
  where
    carrier : Carrier
    carrier = c.index-carrier.result.now

    one : Contains c.args.self.now.all.items carrier
    one = (
      _,
      (
          let long = c.len-2.ensures in
          let young = c.if-age-len.false in
          let long' = c.len.ensures in
          omega (long, long', young, arith)),
      sym c.index-carrier.ensures,
    )
