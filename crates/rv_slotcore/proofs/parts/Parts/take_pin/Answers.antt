use Rattle.rv_slotcore.proofs.Common.{◌≡◌, ℕ, sym, ap, ◌∙◌, false, bit_and, w64, bit_not, rules, Slot}
use Rattle.rv_slotcore.proofs.Common.{pinned_slot, word_of, core_of, slot_read}
use Rattle.rv_slotcore.proofs.CoreWords.{unpinned_word, word_back, cleared}
use Rattle.rv_slotcore.proofs.parts.Parts.take_pin.Goals as goal

word_is : (c : goal.After-set_word) → bit_and c.word.result (bit_not w64 c.pin_of.result)
    ≡ cleared c.word.result c.args.seat
word_is c = ap (λ (n : ℕ). bit_and c.word.result (bit_not w64 n)) c.pin_of.ensures

slot_is : (c : goal.After-set_word) → slot_read
    (bit_and c.word.result (bit_not w64 c.pin_of.result))
    ((core_of c.args.self.now).slots c.args.slot).content ≡ pinned_slot
    ((core_of c.args.self.now).slots c.args.slot) c.args.seat false
slot_is c =
    let x = (core_of c.args.self.now).slots c.args.slot in
    ap (λ (n : ℕ). slot_read n x.content) (word_is c) ∙
    (unpinned_word c.word.result x.content c.args.seat c.requires.seat c.word.type_inv
    ∙ ap (λ (y : Slot). pinned_slot y c.args.seat false) (sym c.word.ensures.read))

pub returns-clause-core : goal.returns-clause-core
returns-clause-core c = search (slot_is, rules)

pub returns-clause-word : goal.returns-clause-word
returns-clause-word c =
    let x = (core_of c.args.self.now).slots c.args.slot in
    sym (ap word_of (sym (slot_is c)) ∙ word_back
    (bit_and c.word.result (bit_not w64 c.pin_of.result)) x.content)
