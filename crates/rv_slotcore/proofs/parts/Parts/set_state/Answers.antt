use Rattle.rv_slotcore.proofs.Common.{◌<◌, length, refl, arith, Seat, in_state, state_of}
use Rattle.rv_slotcore.proofs.CorePlaces.{seats_written}
use Rattle.rv_slotcore.proofs.parts.Parts.set_state.Goals as goal

pub returns : goal.returns
returns c =
    let h = c.args.self.now in
    let ok = h.seats.ok.0 in
    let within : c.args.seat < length h.seats.items = omega arith in
    seats_written h c.args.seat c.index_mut.result.now
    (record { state = c.args.state; records = c.index_mut.result.now.records })
    (λ (q : Seat). in_state q (state_of c.args.state)) within c.index_mut.ensures.value refl
