use Rattle.rv_slots.proofs.Common.{◌<◌, arith, ◌∙◌, inr, stray_view}
use Rattle.rv_slots.proofs.Loops.{let_go}
use Rattle.rv_slots.proofs.table_carrier.TableCarrierCarrier.read_chunk.Goals as goal

pub returns-in-Stray-clause-looks : goal.returns-in-Stray-clause-looks
returns-in-Stray-clause-looks g c =
    let test = c.if-index-self.false in
    let low : c.args.index < c.args.self.now.slots.count = omega arith in
    let s = c.in-Stray.stray in
    let pin = c.in-Stray.ensures in
    let out = c.unpin_stray-seat in
    inr (
      low,
      s,
      pin,
      let_go (stray_view s) c.args.index s.slot c.args.seat.number s.number out.result.0
          out.result.1 c.free.result c.free.new.seat pin.5 pin.4 out.ensures.step c.free.ensures.step,
    )

pub returns-in-Pinned-clause-looks : goal.returns-in-Pinned-clause-looks
returns-in-Pinned-clause-looks g c =
    let test = c.if-index-self.false in
    let low : c.args.index < c.args.self.now.slots.count = omega arith in
    let pin = c.in-Pinned.ensures in
    let read = c.read-chunk.ensures in
    (low, c.in-Pinned.pinned, pin, read.read, read.same.2 ∙ pin.7, read.same.1 ∙ pin.6)
