use Rattle.rv_slotcore.proofs.Common.{claimed_bit, sym, ap, ◌∙◌, Slot}
use Rattle.rv_slotcore.proofs.CoreWords.{mask_is}
use Rattle.rv_slotcore.proofs.parts.Parts.is_claimed.Goals as goal

pub returns : goal.returns
returns c = mask_is c.word.result claimed_bit ∙ sym
    (ap (λ (x : Slot). x.claimed) c.word.ensures.read)
