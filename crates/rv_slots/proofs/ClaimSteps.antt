-- A claim keeps the rule, and is the step of the machine.
use Rattle.rv_slots.proofs.Common.{claimed_bit, slot_words, ◌≡◌, ℕ, ◌*◌, ◌^◌, ◌<◌, Bool, true, false, ◌&&◌}
use Rattle.rv_slots.proofs.Common.{nat_lt, [], get_or, bit_or, sym, refl, ap, ◌∙◌, subst, arith, ⊎_elim, lt-ltb}
use Rattle.rv_slots.proofs.Common.{cases_Bool, common_steps, none, Me, step, Allows, Core, Slot, Claim}
use Rattle.rv_slots.proofs.Common.{Moved, put_at, with_both, in_state, claimed_slot, claims, if_fits, moves}
use Rattle.rv_slots.proofs.Common.{flag, no_words, put_here, put_else, View, SeatView, the_view, claimed}
use Rattle.rv_slots.proofs.Common.{claim_state, claim_told, ClaimIsStep, of_seat, IsIdle, Fits, Kept, Reads}
use Rattle.rv_slotcore.specs.Machine.{Seat}
use Rattle.rv_slots.proofs.Words.{state_changes, state_stays, reads_claimed}
use Rattle.rv_slots.proofs.Knowing.{knows}
use Rattle.rv_slots.proofs.Seating.{Goes, allows_of, one, keeps_by, marked_same, whole_same, slot_same}
use Rattle.rv_slotcore.specs.Machine as core

-- the machine's claim, where it fits
pub moves_claim : (c : Core) (s i : ℕ) (b : Bool) → nat_lt s c.seat_count ≡ true
    → nat_lt i c.slot_count ≡ true → (c.seats s).state ≡ core.Idle → (c.slots i).claimed ≡ b
    → moves c s (Claim i) ≡ claims c s i core.Idle b
moves_claim c s i b h g e d = λ k. if_fits c s (h k && g k) (claims c s i (e k) (d k))

same_claimed : (x : Slot) → x.claimed ≡ true → claimed_slot x ≡ x
same_claimed x e = grind (arith, common_steps)

-- a claiming exchange is that step
pub claims_go : ClaimIsStep
claims_go n slots id q i me idle below s k at small =
    let p : SeatView = the_view me.0 in let a = idle.alone in
    let f = knows n s k id q me a at in let c : Core = k.core in let w : ℕ = get_or s.words
    (slot_words * i) 0 in let p' : SeatView = claimed p i w in
    let resting : (c.seats p.number).state ≡ core.Idle = grind (arith, common_steps) in
    let number = f.small in let slot_count = k.counts.0 in let seat_count = k.counts.1 in
    let in_seats : nat_lt p.number c.seat_count ≡ true = grind (arith, common_steps) in
    let in_slots : nat_lt i c.slot_count ≡ true = lt-ltb i c.slot_count (omega arith) in
    let reads = k.table.states i below in
    let kept : Goes n s k (record { seat = p.number; act = core.Claim i }) (slot_words * i)
    (bit_or w (2 ^ claimed_bit)) id [] p' = ⊎_elim (λ busy. keeps_by n s id (slot_words * i)
    (bit_or w (2 ^ claimed_bit)) p p' k f.here refl c (record { seat = p.number; act = Claim i })
    (ap (λ (m : Moved). m.0)
    (moves_claim c p.number i true in_seats in_slots resting busy)) (refl, refl)
    (state_stays n s.words c.slots i (bit_or w (2 ^ claimed_bit)) k.table below
    (subst (λ z. Reads (bit_or w (2 ^ claimed_bit)) z) (same_claimed (c.slots i) busy)
    (reads_claimed w (c.slots i) reads)))
    (record {
      state = ap (claim_state p i) (reads.claimed ∙ ap flag busy) ∙ f.fits.state;
      records = f.fits.records;
    })
    (λ t ne. refl) (marked_same c.slots c.slots k.seat p.number p' k.marked (λ j. refl) (λ j. refl)
    (ap (λ (z : SeatView). z.dones) (sym f.is)) (ap (λ (z : SeatView). z.frees) (sym f.is)))
    (whole_same k.seat p.number p' k.whole (ap (λ (z : SeatView). z.records) (sym f.is))))
    (λ won. let x : Slot = claimed_slot (c.slots i) in let r : Seat = in_state
    (c.seats p.number) (core.Filling i no_words) in
    keeps_by n s id (slot_words * i) (bit_or w (2 ^ claimed_bit)) p p' k f.here refl
    (with_both c i x p.number r) (record { seat = p.number; act = Claim i })
    (ap (λ (m : Moved). m.0)
    (moves_claim c p.number i false in_seats in_slots resting won)) (refl, refl)
    (state_changes n s.words c.slots i (bit_or w (2 ^ claimed_bit)) x k.table below
    (reads_claimed w (c.slots i) reads) refl)
    (subst (λ z. Fits p' z) (sym (put_here c.seats p.number r))
    (record {
      state = ap (claim_state p i) (reads.claimed ∙ ap flag won);
      records = f.fits.records;
    }))
    (λ t ne. put_else c.seats p.number t r ne)
    (marked_same c.slots (put_at c.slots i x) k.seat p.number p' k.marked
    (slot_same (λ z. z.done) c.slots i x refl) (slot_same (λ z. z.generation) c.slots i x refl)
    (ap (λ (z : SeatView). z.dones) (sym f.is)) (ap (λ (z : SeatView). z.frees) (sym f.is)))
    (whole_same k.seat p.number p' k.whole (ap (λ (z : SeatView). z.records) (sym f.is))))
    (cases_Bool (c.slots i).claimed) in
    let bare : me.1 ≡ [] = ap (λ (m : Me (Unit {0}) View). m.1) a.one in
    let goes = subst (λ l. Goes n s k (record { seat = p.number; act = core.Claim i })
    (slot_words * i) (bit_or w (2 ^ claimed_bit)) id l p') (sym bare) kept in
    (one p', goes.0, goes.1, (i, refl, λ j. (one p', bare j)))

-- so it is allowed
pub claims_by : (n slots id q i : ℕ) (me : Me (Unit {0}) View) → IsIdle q me → i < n → Allows
    (Kept n) slots id me (slot_words * i) (λ w. bit_or w (2 ^ claimed_bit))
    (claim_told (step slots (slot_words * i) (2 ^ claimed_bit) 0 none) me)
claims_by n slots id q i me idle below = allows_of n slots id (slot_words * i) me
    (λ w. bit_or w (2 ^ claimed_bit)) (of_seat me (Claim i))
    (claim_told (step slots (slot_words * i) (2 ^ claimed_bit) 0 none) me)
    (claims_go n slots id q i me idle below)
