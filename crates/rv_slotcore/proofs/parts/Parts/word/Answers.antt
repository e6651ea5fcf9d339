use Rattle.rv_slotcore.proofs.Common.{◌<◌, length, sym, ap, ◌∙◌, arith, word_of, blank_slot, slot_of}
use Rattle.rv_slotcore.proofs.CoreWords.{word_back}
use Rattle.rv_slotcore.proofs.CorePlaces.{read_at}
use Rattle.rv_slotcore.proofs.parts.Parts.word.Goals as goal

pub returns-clause-word : goal.returns-clause-word
returns-clause-word c =
    let h = c.args.self.now in
    let ok = h.slots.ok.0 in
    let x = c.index.result.now in
    let within : c.args.slot < length h.slots.items = omega arith in
    sym (ap word_of (read_at slot_of blank_slot h.slots.items c.args.slot x within c.index.ensures)
    ∙ word_back x.word x.content)
