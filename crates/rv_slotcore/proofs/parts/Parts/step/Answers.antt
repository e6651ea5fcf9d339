use Rattle.rv_slotcore.proofs.Common.{◌<◌, arith, moves, puts, frees, core_of, act_of}
use Rattle.rv_slotcore.proofs.CoreActs.{went_in_range}
use Rattle.rv_slotcore.proofs.parts.Parts.step.Goals as goal

pub returns-in-Put-clause-ok : goal.returns-in-Put-clause-ok
returns-in-Put-clause-ok c =
    let m = core_of c.args.self.now in
    let s = c.args.step.seat in
    let there : s < m.seat_count = omega arith in
    let low : c.in-Put.place < 58 = omega arith in
    went_in_range c.put.new.self c.put.result m s c.in-Put.place m.seat_count 58
    (puts m s c.in-Put.place c.in-Put.word (m.seats s).state) _
    (λ k. moves m s (act_of (c.in-Put.is k))) there low c.put.ensures

pub returns-in-Free-clause-ok : goal.returns-in-Free-clause-ok
returns-in-Free-clause-ok c =
    let m = core_of c.args.self.now in
    let s = c.args.step.seat in
    let there : s < m.seat_count = omega arith in
    let low : c.in-Free.slot < m.slot_count = omega arith in
    went_in_range c.free.new.self c.free.result m s c.in-Free.slot m.seat_count m.slot_count
    (frees m s c.in-Free.slot c.in-Free.seen (m.seats s).state) _
    (λ k. moves m s (act_of (c.in-Free.is k))) there low c.free.ensures
