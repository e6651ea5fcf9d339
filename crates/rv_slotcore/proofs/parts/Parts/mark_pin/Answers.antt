use Rattle.rv_slotcore.proofs.Common.{ℕ, bit_or, sym, ap, ◌∙◌, true, Slot, with_slot, pinned_slot, core_of}
use Rattle.rv_slotcore.proofs.Common.{slot_read}
use Rattle.rv_slotcore.proofs.CoreWords.{pinned_word}
use Rattle.rv_slotcore.proofs.parts.Parts.mark_pin.Goals as goal

pub returns : goal.returns
returns c =
    let m = core_of c.args.self.now in
    let s = c.args.seat in
    let i = c.args.slot in
    let w = c.word.result in
    let mask = ap (λ (n : ℕ). slot_read (bit_or w n) (m.slots i).content) c.pin_of.ensures in
    c.set_word.ensures ∙ ap (λ (y : Slot). with_slot m i y)
    (mask ∙ (pinned_word w (m.slots i).content s c.requires.seat ∙ ap
    (λ (y : Slot). pinned_slot y s true) (sym c.word.ensures.read)))
