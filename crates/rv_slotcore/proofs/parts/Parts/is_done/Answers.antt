use Rattle.rv_slotcore.proofs.Common.{done_bit, sym, ap, ◌∙◌, Slot}
use Rattle.rv_slotcore.proofs.CoreWords.{mask_is}
use Rattle.rv_slotcore.proofs.parts.Parts.is_done.Goals as goal

pub returns : goal.returns
returns c = mask_is c.word.result done_bit ∙ sym (ap (λ (x : Slot). x.done) c.word.ensures.read)
