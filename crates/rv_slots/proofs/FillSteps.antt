-- A put and a publish keep the rule, and are the steps of the machine.
use Rattle.rv_slots.proofs.Common.{full_bit, generation_bit, slot_words, is_chunk_text, ◌≡◌, ℕ, zero, suc, ◌+◌}
use Rattle.rv_slots.proofs.Common.{◌*◌, ◌/◌, ◌^◌, ◌<◌, true, ◌&&◌, nat_lt, List, [], ◌∷◌, get_or, set, bit_or}
use Rattle.rv_slots.proofs.Common.{Option, Some, None, Contains, sym, refl, ap, ◌∙◌, subst, arith, lt-ltb, rules}
use Rattle.rv_slots.proofs.Common.{common_steps, none, Me, step, Allows, Core, Slot, Moved, put_at}
use Rattle.rv_slots.proofs.Common.{with_both, in_state, if_fits, moves}
use Rattle.rv_slots.proofs.Common.{put_here, put_else, View, Record, SeatView, Fits, Kept, WordsFit, the_view}
use Rattle.rv_slots.proofs.Common.{put_line, published, put_in, put_told, publish_told, PutIsStep, PublishIsStep}
use Rattle.rv_slots.proofs.Common.{of_seat, IsFilling}
use Rattle.rv_slotcore.specs.Machine.{Seat}
use Rattle.rv_slots.proofs.Words.{state_changes, content_changes, reads_full}
use Rattle.rv_slots.proofs.Knowing.{knows, safe_of, in_head}
use Rattle.rv_slots.proofs.Seating.{Goes, allows_of, one, keeps_by, marked_same, whole_same, slot_same}
use Rattle.rv_slots.proofs.PinSteps.{whole_more}
use Rattle.rv_slotcore.specs.Machine as core

moves_put : (c : Core) (s i j v : ℕ) (p : List (Option ℕ)) → nat_lt s c.seat_count ≡ true
    → nat_lt j 58 ≡ true → (c.seats s).state ≡ core.Filling i p → moves c s (core.Put j v)
    ≡ core.puts c s j v (core.Filling i p)
moves_put c s i j v p h g e = λ k. if_fits c s (h k && g k) (core.puts c s j v (e k))

-- a putting exchange is the machine's step
pub puts_go : PutIsStep
puts_go n slots id q i j v me fills below within s k at small = let a = fills.alone in
    let p : SeatView = the_view me.0 in
    let f = knows n s k id q me a at in let c : Core = k.core in let w : ℕ = get_or s.words
    (slot_words * i) 0 in
    let number = f.small in let slot_count = k.counts.0 in let seat_count = k.counts.1 in
    let in_seats : nat_lt p.number c.seat_count ≡ true = grind (arith, common_steps) in
    let pp : List (Option ℕ) = put_in p.state in let p' : SeatView = put_line p i j v in
    let was : (c.seats p.number).state ≡ core.Filling i pp = grind (arith, common_steps) in
    let r : Seat = in_state (c.seats p.number) (core.Filling i (set pp j (Some v))) in
    let x : Slot = core.written_slot (c.slots i) j v in
    let kept : Goes n s k (record { seat = p.number; act = core.Put j v })
    (slot_words * i + (1 + j)) v id [] p' = keeps_by n s id
    (slot_words * i + (1 + j)) v p p' k f.here refl (with_both c i x p.number r)
    (record { seat = p.number; act = core.Put j v }) (ap (λ (m : Moved). m.0)
    (moves_put c p.number i j v pp in_seats (lt-ltb j 58 within) was)) (refl, refl)
    (content_changes n s.words c.slots i j v k.table below within)
    (subst (λ z. Fits p' z) (sym (put_here c.seats p.number r))
    (record { state = refl; records = f.fits.records })) (λ t ne. put_else c.seats p.number t r ne)
    (marked_same c.slots (put_at c.slots i x) k.seat p.number p' k.marked
    (slot_same (λ z. z.done) c.slots i x refl) (slot_same (λ z. z.generation) c.slots i x refl)
    (ap (λ (z : SeatView). z.dones) (sym f.is)) (ap (λ (z : SeatView). z.frees) (sym f.is)))
    (whole_same k.seat p.number p' k.whole (ap (λ (z : SeatView). z.records) (sym f.is))) in
    let bare : me.1 ≡ [] = ap (λ (m : Me (Unit {0}) View). m.1) a.one in
    let goes = subst (λ l. Goes n s k (record { seat = p.number; act = core.Put j v })
    (slot_words * i + (1 + j)) v id l p') (sym bare) kept in
    (one p', goes.0, goes.1, (i, j, within, refl, λ u. (one p', bare u)))

-- words that were put are those of the content that they make
pub put_fits : (p : List (Option ℕ)) → WordsFit p (core.put_words p)
put_fits [] j w e = absurd (cc)
put_fits (None ∷ p) zero w e = absurd (cc)
put_fits (Some v ∷ p) zero w e = cc
put_fits (None ∷ p) (suc j) w e = put_fits p j w e
put_fits (Some v ∷ p) (suc j) w e = put_fits p j w e

moves_publish : (c : Core) (s i : ℕ) (p : List (Option ℕ)) → nat_lt s c.seat_count ≡ true →
    (c.seats s).state ≡ core.Filling i p → core.all_put p ≡ true → is_chunk_text
    (core.put_words p) ≡ true → moves c s core.Publish ≡ core.publishes_if c s i p true
moves_publish c s i p h e a b = (λ k. if_fits c s (h k) (core.publishes c s (e k))) ∙
    (λ k. core.publishes_if c s i p (a k && b k))

-- a publishing exchange is the machine's step
pub publishes_go : PublishIsStep
publishes_go n slots id q i me fills all text below s k at small = let a = fills.alone in
    let p : SeatView = the_view me.0 in
    let f = knows n s k id q me a at in let c : Core = k.core in let w : ℕ = get_or s.words
    (slot_words * i) 0 in
    let number = f.small in let slot_count = k.counts.0 in let seat_count = k.counts.1 in
    let in_seats : nat_lt p.number c.seat_count ≡ true = grind (arith, common_steps) in
    let pp : List (Option ℕ) = put_in p.state in let p' : SeatView = published p i w in let safe =
    safe_of n s k in let reads = k.table.states i below in
    let was : (c.seats p.number).state ≡ core.Filling i pp = grind (arith, common_steps) in
    let made : core.Record = record {
      slot = i;
      generation = (c.slots i).generation;
      content = core.put_words pp;
    } in let new : Record =
    record { slot = i; generation = w / 2 ^ generation_bit; words = pp } in
    let r : Seat = core.recorded (c.seats p.number) core.Idle made in let x : Slot =
    core.full_slot (c.slots i) in
    let kept : Goes n s k (record { seat = p.number; act = core.Publish }) (slot_words * i)
    (bit_or w (2 ^ full_bit)) id [] p' = keeps_by n s id (slot_words * i)
    (bit_or w (2 ^ full_bit)) p p' k f.here refl (with_both c i x p.number r)
    (record { seat = p.number; act = core.Publish })
    (ap (λ (m : Moved). m.0) (moves_publish c p.number i pp in_seats was all text)) (refl, refl)
    (state_changes n s.words c.slots i (bit_or w (2 ^ full_bit)) x k.table below
    (reads_full w (c.slots i) reads) refl)
    (subst (λ z. Fits p' z) (sym (put_here c.seats p.number r))
    (record { state = refl; records = search (put_fits, rules) }))
    (λ t ne. put_else c.seats p.number t r ne)
    (marked_same c.slots (put_at c.slots i x) k.seat p.number p' k.marked
    (slot_same (λ z. z.done) c.slots i x refl) (slot_same (λ z. z.generation) c.slots i x refl)
    (ap (λ (z : SeatView). z.dones) (sym f.is)) (ap (λ (z : SeatView). z.frees) (sym f.is)))
    (whole_more k.seat p.number p' new k.whole f.small
    (ap (λ (z : SeatView). new ∷ z.records) (sym f.is)) (
      p.number,
      new,
      f.small,
      subst (λ (z : SeatView). Contains z.records new)
          (sym (put_here k.seat p.number p')) (in_head new p.records),
      refl,
      refl,
      all,
    )
    (λ _. text)) in
    let bare : me.1 ≡ [] = ap (λ (m : Me (Unit {0}) View). m.1) a.one in
    let goes = subst (λ l. Goes n s k (record { seat = p.number; act = core.Publish })
    (slot_words * i) (bit_or w (2 ^ full_bit)) id l p') (sym bare) kept in
    (one p', goes.0, goes.1, (i, refl, λ u. (one p', bare u)))

-- so a putting exchange is allowed
pub puts_by : (n slots id q i j v : ℕ) (me : Me (Unit {0}) View) → IsFilling q i me → i < n → j < 58
    → Allows (Kept n) slots id me (slot_words * i + (1 + j)) (λ _. v)
    (λ _. put_told (step slots (slot_words * i + (1 + j)) v 0 none) me v)
puts_by n slots id q i j v me fills below within = allows_of n slots id
    (slot_words * i + (1 + j)) me (λ _. v) (of_seat me (core.Put j v))
    (λ _. put_told (step slots (slot_words * i + (1 + j)) v 0 none) me v)
    (puts_go n slots id q i j v me fills below within)

-- so a publishing exchange is allowed
pub publishes_by : (n slots id q i : ℕ) (me : Me (Unit {0}) View) → IsFilling q i me
    → core.all_put (put_in (the_view me.0).state) ≡ true → is_chunk_text
    (core.put_words (put_in (the_view me.0).state)) ≡ true → i < n
    → Allows (Kept n) slots id me (slot_words * i) (λ w. bit_or w (2 ^ full_bit))
    (publish_told (step slots (slot_words * i) (2 ^ full_bit) 0 none) me)
publishes_by n slots id q i me fills all text below = allows_of n slots id (slot_words * i) me
    (λ w. bit_or w (2 ^ full_bit)) (of_seat me core.Publish)
    (publish_told (step slots (slot_words * i) (2 ^ full_bit) 0 none) me)
    (publishes_go n slots id q i me fills all text below)
