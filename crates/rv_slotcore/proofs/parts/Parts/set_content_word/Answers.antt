use Rattle.rv_slotcore.proofs.Common.{◌<◌, length, refl, arith, slice_set, Slot, written_slot}
use Rattle.rv_slotcore.proofs.CorePlaces.{slots_written}
use Rattle.rv_slotcore.proofs.parts.Parts.set_content_word.Goals as goal

pub returns : goal.returns
returns c =
    let h = c.args.self.now in
    let ok = h.slots.ok.0 in
    let x = c.index_mut.result.now in
    let within : c.args.slot < length h.slots.items = omega arith in
    slots_written h c.args.slot x
    (record {
      word = c.index_mut.result.now.word;
      content = slice_set c.index_mut.result.now.content c.args.place c.args.word;
    })
    (λ (x : Slot). written_slot x c.args.place c.args.word) within c.index_mut.ensures.value refl
