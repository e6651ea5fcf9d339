use Rattle.rv_slotcore.proofs.Common.{ap, refl, false, Seat, lets_go, pinned_slot, in_state, Idle, Unpinned}
use Rattle.rv_slotcore.proofs.Common.{core_of}
use Rattle.rv_slotcore.proofs.CoreActs.{went, two_writes}
use Rattle.rv_slotcore.proofs.parts.Parts.let_go.Goals as goal

pub returns : goal.returns
returns c =
    let m = core_of c.args.self.now in
    let s = c.args.seat in
    let i = c.args.slot in
    let x = pinned_slot (m.slots i) s false in
    let z = λ (q : Seat). in_state q Idle in
    went c.set_state.new.self _ _ (lets_go m s i) refl
    (two_writes m c.take_pin-word.new.self c.set_state.new.self i s x z c.take_pin-word.ensures.core
    c.set_state.ensures) (ap Unpinned c.take_pin-word.ensures.word)
