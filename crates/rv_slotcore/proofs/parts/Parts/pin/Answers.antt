use Rattle.rv_slotcore.proofs.Common.{ℕ, List, true, sym, ap, refl, ◌∙◌, Slot, Seat, pins_on, pins_as}
use Rattle.rv_slotcore.proofs.Common.{pinned_slot, in_state, recorded, Pinned, Stray, Pins, Strays, with_both}
use Rattle.rv_slotcore.proofs.Common.{core_of, state_of}
use Rattle.rv_slotcore.proofs.CoreActs.{went, two_writes, two_writes_back}
use Rattle.rv_slotcore.proofs.parts.Parts.pin.Goals as goal

pub returns-in_ok-set_recorded-clause-ok : goal.returns-in_ok-set_recorded-clause-ok
returns-in_ok-set_recorded-clause-ok c =
    let m = core_of c.args.self.now in
    let s = c.args.seat in
    let i = c.args.slot in
    let idle = c.state.ensures ∙ ap state_of c.in-Idle.is in
    let read = sym c.is_readable.ensures ∙ c.if-is_readable.true in
    let g = c.generation-generation.ensures in
    let w = c.content-content.ensures in
    let y = λ (x : Slot). pinned_slot x s true in
    let made = λ (g : ℕ) (w : List ℕ). recorded (m.seats s) (Pinned i g w)
    (record { slot = i; generation = g; content = w }) in
    went c.mark_pin.new.self _ _
    (with_both m i (y (m.slots i)) s (made (m.slots i).generation (m.slots i).content), Pins)
    ((λ k. pins_on m s i (idle k)) ∙ (λ k. pins_as m s i (read k)))
    (two_writes_back m c.set_recorded.new.self c.mark_pin.new.self i s
    (made c.generation-generation.result c.content-content.result.now) y
    c.in_ok-set_recorded.ensures.ok c.mark_pin.ensures
    ∙ (λ k. with_both m i (y (m.slots i)) s (made (g k) (w k)))) refl

pub returns-else-is_readable-clause-ok : goal.returns-else-is_readable-clause-ok
returns-else-is_readable-clause-ok c =
    let m = core_of c.args.self.now in
    let s = c.args.seat in
    let i = c.args.slot in
    let idle = c.state.ensures ∙ ap state_of c.in-Idle.is in
    let read = sym c.is_readable.ensures ∙ c.if-is_readable.false in
    let x = pinned_slot (m.slots i) s true in
    let z = λ (q : Seat). in_state q (Stray i) in
    went c.set_state.new.self _ _ (with_both m i x s (z (m.seats s)), Strays)
    ((λ k. pins_on m s i (idle k)) ∙ (λ k. pins_as m s i (read k)))
    (two_writes m c.mark_pin-else-is_readable.new.self c.set_state.new.self i s x z
    c.mark_pin-else-is_readable.ensures c.set_state.ensures) refl
