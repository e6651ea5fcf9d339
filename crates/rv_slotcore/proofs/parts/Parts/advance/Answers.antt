use Rattle.rv_slotcore.proofs.Common.{ℕ, sym, ap, ◌∙◌, Slot, with_slot, freed_slot, core_of, slot_read}
use Rattle.rv_slotcore.proofs.CoreWords.{freed_word}
use Rattle.rv_slotcore.proofs.parts.Parts.advance.Goals as goal

pub returns : goal.returns
returns c =
    let m = core_of c.args.self.now in
    let x = m.slots c.args.slot in
    let next = ap (λ (n : ℕ). slot_read n x.content) c.next_word.ensures in
    c.set_word.ensures ∙ ap (λ (y : Slot). with_slot m c.args.slot y)
    (next ∙ (freed_word c.word.result x.content ∙ ap freed_slot (sym c.word.ensures.read)))
