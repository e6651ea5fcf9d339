use Rattle.rv_slotcore.proofs.Common.{◌≡◌, replicate, arith, ap, ◌∙◌, idle_seat}
use Rattle.rv_slotcore.proofs.Starting.{starts, filled}
use Rattle.rv_slotcore.proofs.parts.Parts.new.Goals as goal

pub returns : goal.returns
returns c =
    let n = c.args.slots in
    let table = c.new-table.ensures in
    let all : c.loop-number.number ≡ c.args.seats = omega arith in
    starts (record { slots = c.resize.new.self; seats = c.loop-number.entries }) n c.args.seats
    (filled c.resize.new.self.items c.new-table.result.items n _ c.in_ok-resize.ensures.items
    table.items table.len) (c.loop-number.invariant ∙ ap (λ m. replicate m idle_seat) all)
