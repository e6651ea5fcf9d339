use Rattle.rv_slotcore.proofs.Common.{full_bit, sym, ap, ◌∙◌, Slot}
use Rattle.rv_slotcore.proofs.CoreWords.{mask_is}
use Rattle.rv_slotcore.proofs.parts.Parts.is_full.Goals as goal

pub returns : goal.returns
returns c = mask_is c.word.result full_bit ∙ sym (ap (λ (x : Slot). x.full) c.word.ensures.read)
