use Rattle.rv_slotcore.proofs.Common.{sym, ap, ◌∙◌, Slot, with_slot, claimed_slot, core_of}
use Rattle.rv_slotcore.proofs.CoreWords.{claimed_word}
use Rattle.rv_slotcore.proofs.parts.Parts.mark_claimed.Goals as goal

pub returns : goal.returns
returns c =
    let m = core_of c.args.self.now in
    c.set_word.ensures ∙ ap (λ (y : Slot). with_slot m c.args.slot y)
    (claimed_word c.word.result (m.slots c.args.slot).content ∙ ap claimed_slot
    (sym c.word.ensures.read))
