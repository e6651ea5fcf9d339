-- An unpin keeps the rule, and is the step of the machine.
use Rattle.rv_slots.proofs.Common.{slot_words, ◌≡◌, ℕ, ◌*◌, ◌^◌, ◌<◌, true, false, nat_lt, [], get_or, sym, refl}
use Rattle.rv_slots.proofs.Common.{ap, ◌∙◌, subst, arith, none, Me, step, Allows, Core, Slot, Moved}
use Rattle.rv_slots.proofs.Common.{put_at, with_both, in_state, if_fits, moves}
use Rattle.rv_slots.proofs.Common.{Reads, put_here, put_else, View, SeatView, Fits, Kept, shown, cleared}
use Rattle.rv_slots.proofs.Common.{the_view, unpinned, unpin_told, Refines, UnpinIsStep, UnpinStrayIsStep}
use Rattle.rv_slots.proofs.Common.{of_seat, IsAlone, IsPinned, IsStray, bit_not, w64, bit_and, common_steps}
use Rattle.rv_slotcore.specs.Machine.{Seat}
use Rattle.rv_slots.proofs.Words.{state_changes, reads_unpin}
use Rattle.rv_slots.proofs.Knowing.{knows, shown_pinned, shown_stray}
use Rattle.rv_slots.proofs.Seating.{Goes, allows_of, one, keeps_by, marked_same, whole_same, slot_same}
use Rattle.rv_slotcore.specs.Machine as core

-- all bits but the seat's
abbrev pub bit_not_of : ℕ → ℕ
bit_not_of s = bit_not w64 (2 ^ s)

moves_unpin : (c : Core) (s i : ℕ) (st : core.SeatState) → nat_lt s c.seat_count ≡ true →
    (c.seats s).state ≡ st → core.unpins c s st ≡ core.lets_go c s i → moves c s core.Unpin
    ≡ core.lets_go c s i
moves_unpin c s i st h e f = (λ k. if_fits c s (h k) (core.unpins c s (e k))) ∙ f

unpins_by : (n slots id q i mask : ℕ) (me : Me (Unit {0}) View) → IsAlone q me →
    ((c : Core) (st : core.SeatState) → (the_view me.0).state ≡ shown st → core.unpins c
    (the_view me.0).number st ≡ core.lets_go c (the_view me.0).number i) → i < n
    → Refines n id me (slot_words * i) (λ w. cleared w q) (of_seat me core.Unpin)
    (unpin_told (step slots (slot_words * i) mask 0 none) me)
unpins_by n slots id q i mask me a holds below s k at small =
    let p : SeatView = the_view me.0 in
    let f = knows n s k id q me a at in let c : Core = k.core in let w : ℕ = get_or s.words
    (slot_words * i) 0 in let p' : SeatView = unpinned p i w in
    let number = f.small in let slot_count = k.counts.0 in let seat_count = k.counts.1 in
    let in_seats : nat_lt p.number c.seat_count ≡ true = grind (arith, common_steps) in
    let reads = k.table.states i below in
    let x : Slot = core.pinned_slot (c.slots i) p.number false in let r : Seat = in_state
    (c.seats p.number) core.Idle in
    let kept : Goes n s k (record { seat = p.number; act = core.Unpin }) (slot_words * i)
    (cleared w q) id [] p' = keeps_by n s id (slot_words * i) (cleared w q) p p' k f.here refl
    (with_both c i x p.number r) (record { seat = p.number; act = core.Unpin })
    (ap (λ (m : Moved). m.0) (moves_unpin c p.number i (c.seats p.number).state in_seats refl
    (holds c (c.seats p.number).state f.fits.state))) (refl, refl)
    (state_changes n s.words c.slots i (cleared w q) x k.table below
    (subst (λ (z : ℕ). Reads (cleared w z) x) a.named
    (reads_unpin w p.number (c.slots i) f.small small reads)) refl)
    (subst (λ z. Fits p' z) (sym (put_here c.seats p.number r))
    (record { state = refl; records = f.fits.records })) (λ t ne. put_else c.seats p.number t r ne)
    (marked_same c.slots (put_at c.slots i x) k.seat p.number p' k.marked
    (slot_same (λ z. z.done) c.slots i x refl) (slot_same (λ z. z.generation) c.slots i x refl)
    (ap (λ (z : SeatView). z.dones) (sym f.is)) (ap (λ (z : SeatView). z.frees) (sym f.is)))
    (whole_same k.seat p.number p' k.whole (ap (λ (z : SeatView). z.records) (sym f.is)))
    in
    let bare : me.1 ≡ [] = ap (λ (m : Me (Unit {0}) View). m.1) a.one in
    let goes = subst (λ l. Goes n s k (record { seat = p.number; act = core.Unpin })
    (slot_words * i) (cleared w q) id l p') (sym bare) kept in
    (one p', goes.0, goes.1, (i, refl, λ j. (one p', bare j)))

-- an unpinning exchange is the machine's step
pub unpins_go : UnpinIsStep
unpins_go n slots id q i mask me p below = unpins_by n slots id q i mask me p.alone
    (λ c st e. let o = shown_pinned st i _ (sym p.state ∙ e) in ap
    (core.unpins c (the_view me.0).number) o.1) below

-- so it is for a stray pin
pub unpins_stray_go : UnpinStrayIsStep
unpins_stray_go n slots id q i mask me p below = unpins_by n slots id q i mask me p.alone
    (λ c st e. let o = shown_stray st i (sym p.state ∙ e) in ap
    (core.unpins c (the_view me.0).number) o) below

-- so it is allowed
pub unpins_pinned : (n slots id q i : ℕ) (me : Me (Unit {0}) View) → IsPinned q i me → i < n
    → Allows (Kept n) slots id me (slot_words * i) (λ w. cleared w q)
    (unpin_told (step slots (slot_words * i) (bit_not_of q) 0 none) me)
unpins_pinned n slots id q i me p below = allows_of n slots id (slot_words * i) me
    (λ w. cleared w q) (of_seat me core.Unpin)
    (unpin_told (step slots (slot_words * i) (bit_not_of q) 0 none) me)
    (unpins_go n slots id q i (bit_not_of q) me p below)

-- and for a stray pin
pub unpins_stray : (n slots id q i : ℕ) (me : Me (Unit {0}) View) → IsStray q i me → i < n
    → Allows (Kept n) slots id me (slot_words * i) (λ w. cleared w q)
    (unpin_told (step slots (slot_words * i) (bit_not_of q) 0 none) me)
unpins_stray n slots id q i me p below = allows_of n slots id (slot_words * i) me
    (λ w. cleared w q) (of_seat me core.Unpin)
    (unpin_told (step slots (slot_words * i) (bit_not_of q) 0 none) me)
    (unpins_stray_go n slots id q i (bit_not_of q) me p below)

-- the same, with the pin as the code has it
pub unpins_pinned_by : (n slots id q i b : ℕ) (me : Me (Unit {0}) View) → b ≡ 2 ^ q
    → IsPinned q i me → i < n → Allows (Kept n) slots id me (slot_words * i)
    (λ w. bit_and w (bit_not w64 b))
    (unpin_told (step slots (slot_words * i) (bit_not w64 b) 0 none) me)
unpins_pinned_by n slots id q i b me e p below = subst
    (λ (m : ℕ). Allows (Kept n) slots id me (slot_words * i) (λ w. bit_and w (bit_not w64 m))
    (unpin_told (step slots (slot_words * i) (bit_not w64 m) 0 none) me)) (sym e)
    (unpins_pinned n slots id q i me p below)

-- by whatever word has the pin's bit
pub unpins_stray_by : (n slots id q i b : ℕ) (me : Me (Unit {0}) View) → b ≡ 2 ^ q
    → IsStray q i me → i < n → Allows (Kept n) slots id me (slot_words * i)
    (λ w. bit_and w (bit_not w64 b))
    (unpin_told (step slots (slot_words * i) (bit_not w64 b) 0 none) me)
unpins_stray_by n slots id q i b me e p below = subst
    (λ (m : ℕ). Allows (Kept n) slots id me (slot_words * i) (λ w. bit_and w (bit_not w64 m))
    (unpin_told (step slots (slot_words * i) (bit_not w64 m) 0 none) me)) (sym e)
    (unpins_stray n slots id q i me p below)
