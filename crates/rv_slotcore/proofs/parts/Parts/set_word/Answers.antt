use Rattle.rv_slotcore.proofs.Common.{◌<◌, length, refl, arith, Slot, slot_read}
use Rattle.rv_slotcore.proofs.CorePlaces.{slots_written}
use Rattle.rv_slotcore.proofs.parts.Parts.set_word.Goals as goal

pub returns : goal.returns
returns c =
    let h = c.args.self.now in
    let ok = h.slots.ok.0 in
    let x = c.index_mut.result.now in
    let within : c.args.slot < length h.slots.items = omega arith in
    slots_written h c.args.slot x
    (record { word = c.args.word; content = c.index_mut.result.now.content })
    (λ (x : Slot). slot_read c.args.word x.content) within c.index_mut.ensures.value refl
