use Rattle.std.proofs.Common.{◌<◌, arith, ◌∙◌, add-one}
use Rattle.rv_slots.proofs.table_carrier.TableCarrierCarrier.put_chunk.Goals as goal

-- One slot more was found claimed.
pub loop-slot-preserved : goal.loop-slot-preserved
loop-slot-preserved g c =
    let i = c.loop-slot.invariant in (
      c.in-Busy.ensures.3 ∙ i.0,
      i.1,
      rw add-one (c.loop-slot.seat, i.2, c.in-Busy.ensures),
    )

pub returns-in-Filling-clause-put : goal.returns-in-Filling-clause-put
returns-in-Filling-clause-put g c =
    let i = c.loop-slot.invariant in
    let end = i.1 in
    let test = c.loop-slot-test.true in
    let low : c.loop-slot.slot < c.args.self.now.slots.count = omega arith in
    let f = c.fill.ensures.filled in (
      c.loop-slot.slot,
      low,
      c.loop-slot.seat,
      i.2,
      c.in-Filling.filling,
      c.in-Filling.ensures,
      (f.0, f.1, f.2, f.3 ∙ c.words.ensures.words, f.4, f.5),
    )
