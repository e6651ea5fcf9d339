use Rattle.rv_slotcore.proofs.Common.{ap, refl, ◌∙◌, Some, slice_set, Seat, puts, written_slot, in_state, Filling}
use Rattle.rv_slotcore.proofs.Common.{Stored, with_both, core_of, state_of}
use Rattle.rv_slotcore.proofs.CoreActs.{went, two_writes}
use Rattle.rv_slotcore.proofs.parts.Parts.put.Goals as goal

pub returns : goal.returns
returns c =
    let m = core_of c.args.self.now in
    let s = c.args.seat in
    let i = c.in-Filling.slot in
    let j = c.args.place in
    let filling = c.state.ensures ∙ ap state_of c.in-Filling.is in
    let z = λ (q : Seat). in_state q (Filling i (slice_set c.in-Filling.words j (Some c.args.word)))
    in
    went c.set_state.new.self _ _ (
      with_both m i (written_slot (m.slots i) j c.args.word) s
          (z (m.seats s)),
      Stored,
    ) (λ k. puts m s j c.args.word (filling k))
    (two_writes m c.set_content_word.new.self c.set_state.new.self i s
    (written_slot (m.slots i) j c.args.word) z c.set_content_word.ensures c.set_state.ensures) refl
