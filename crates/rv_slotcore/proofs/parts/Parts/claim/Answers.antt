use Rattle.rv_slotcore.proofs.Common.{sym, ap, refl, ◌∙◌, Seat, claims, claimed_slot, in_state, Filling, no_words}
use Rattle.rv_slotcore.proofs.Common.{with_both, core_of, state_of}
use Rattle.rv_slotcore.specs.Machine.{Fills}
use Rattle.rv_slotcore.proofs.CoreActs.{went, two_writes}
use Rattle.rv_slotcore.proofs.parts.Parts.claim.Goals as goal

pub returns : goal.returns
returns c =
    let m = core_of c.args.self.now in
    let s = c.args.seat in
    let i = c.args.slot in
    let idle = c.state.ensures ∙ ap state_of c.in-Idle.is in
    let clear = sym c.is_claimed.ensures ∙ c.if-is_claimed.false in
    let z = λ (q : Seat). in_state q (Filling i no_words) in
    went c.set_state.new.self _ _ (
      with_both m i (claimed_slot (m.slots i)) s (z (m.seats s)),
      Fills,
    ) (λ k. claims m s i (idle k) (clear k))
    (two_writes m c.mark_claimed.new.self c.set_state.new.self i s
    (claimed_slot (m.slots i)) z c.mark_claimed.ensures c.set_state.ensures) refl
