use Rattle.rv_slotcore.proofs.Common.{ℕ, List, ◌&&◌, sym, ap, refl, ◌∙◌, publishes, publishes_if, full_slot}
use Rattle.rv_slotcore.proofs.Common.{recorded, Idle, Published, Unfit, with_both, put_words, is_chunk_text}
use Rattle.rv_slotcore.proofs.Common.{core_of, state_of}
use Rattle.rv_slotcore.proofs.CoreActs.{put_is, all_is, went, two_writes_back}
use Rattle.rv_slotcore.proofs.parts.Parts.publish.Goals as goal

pub returns-clause-ok : goal.returns-clause-ok
returns-clause-ok c =
    let m = core_of c.args.self.now in
    let s = c.args.seat in
    let i = c.in-Filling.slot in
    let p = c.in-Filling.words in
    let filling = c.state.ensures ∙ ap state_of c.in-Filling.is in
    let w = c.put_words-content.ensures ∙ put_is p in
    let may = (λ k. sym (all_is p) k && is_chunk_text (sym w k)) ∙
    (sym c.may_publish.ensures ∙ c.if-not-may_publish.false) in
    let g = c.generation-generation.ensures in
    let made = λ (g : ℕ) (w : List ℕ). recorded (m.seats s) Idle
    (record { slot = i; generation = g; content = w }) in
    went c.mark_full.new.self _ _ (
      with_both m i (full_slot (m.slots i)) s (made (m.slots i).generation (put_words p)),
      Published,
    ) ((λ k. publishes m s (filling k)) ∙ (λ k. publishes_if m s i p (may k)))
    (two_writes_back m c.set_recorded.new.self c.mark_full.new.self i s
    (made c.generation-generation.result c.put_words-content.result) full_slot
    c.in_ok-set_recorded.ensures.ok c.mark_full.ensures
    ∙ (λ k. with_both m i (full_slot (m.slots i)) s (made (g k) (w k)))) refl

pub returns-then-not-may_publish-clause-ok : goal.returns-then-not-may_publish-clause-ok
returns-then-not-may_publish-clause-ok c =
    let m = core_of c.args.self.now in
    let s = c.args.seat in
    let i = c.in-Filling.slot in
    let p = c.in-Filling.words in
    let filling = c.state.ensures ∙ ap state_of c.in-Filling.is in
    let w = c.put_words-content.ensures ∙ put_is p in
    let not = (λ k. sym (all_is p) k && is_chunk_text (sym w k)) ∙
    (sym c.may_publish.ensures ∙ c.if-not-may_publish.true) in
    went c.args.self.now _ _ (m, Unfit)
    ((λ k. publishes m s (filling k)) ∙ (λ k. publishes_if m s i p (not k))) refl refl
