-- A pin keeps the rule, and is the step of the machine.
use Rattle.rv_slots.proofs.Common.{generation_bit, seats_at_most, slot_words, is_chunk_text, ◌≡◌, ◌⊎◌, ℕ, ◌*◌}
use Rattle.rv_slots.proofs.Common.{◌/◌, ◌^◌, ◌<◌, Bool, true, false, not, ◌&&◌, nat_lt, List, [], ◌∷◌, get_or}
use Rattle.rv_slots.proofs.Common.{bit_or, Contains, sym, refl, ap, ◌∙◌, subst, arith, ⊎_elim, lt-ltb, cases_Bool}
use Rattle.rv_slots.proofs.Common.{rules, common_steps, none, Me, step, Allows, Core, Slot, Moved}
use Rattle.rv_slots.proofs.Common.{put_at, with_both, in_state, if_fits, moves, flag, no_words}
use Rattle.rv_slots.proofs.Common.{Reads, put_cases, put_here, put_else, none_put, View, Record, SeatView, Stray}
use Rattle.rv_slots.proofs.Common.{Fits, Kept, Whole, RecordsFit, the_view, pinned, pin_state, pin_records}
use Rattle.rv_slots.proofs.Common.{pin_told, IsNewest, PinIsStep, of_seat, IsIdle}
use Rattle.rv_slotcore.specs.Machine.{Seat}
use Rattle.rv_slots.specs.declared.views.SeatState.TheVariants.{Pinned}
use Rattle.rv_slots.proofs.Words.{state_changes, reads_pin}
use Rattle.rv_slots.proofs.Knowing.{knows, safe_of, in_tail, fit_back, fit_there}
use Rattle.rv_slots.proofs.Seating.{Goes, allows_of, one, keeps_by, marked_same, whole_same, slot_same}
use Rattle.rv_slotcore.specs.Machine as core

moves_pin : (c : Core) (s i : ℕ) (b : Bool) → nat_lt s c.seat_count ≡ true → nat_lt i c.slot_count
    ≡ true → (c.seats s).state ≡ core.Idle → (c.slots i).full && not (c.slots i).done ≡ b
    → moves c s (core.Pin i) ≡ core.pins_as c s i b
moves_pin c s i b h g e d = (λ k. if_fits c s (h k && g k) (core.pins_on c s i (e k))) ∙ ap
    (core.pins_as c s i) d

-- a record is added for which there is a whole one, or which is whole itself
pub whole_more : (seat : ℕ → SeatView) (s : ℕ) (p' : SeatView) (w : Record) → Whole seat
    → s < seats_at_most → p'.records ≡ w ∷ (seat s).records
    → ((u : ℕ) × (q : Record) × (u < seats_at_most) × Contains (put_at seat s p' u).records q ×
    (q.slot ≡ w.slot) × (q.generation ≡ w.generation) × (core.all_put q.words ≡ true))
    → (core.all_put w.words ≡ true → is_chunk_text (core.put_words w.words) ≡ true) → Whole
    (put_at seat s p')
whole_more seat s p' w m l more has text =
    let still : (t : ℕ) (r : Record) → Contains (seat t).records r → Contains
    (put_at seat s p' t).records r = λ t r c. put_cases (λ z. Contains z.records r) seat s t p'
    (λ e. subst (λ (z : List Record). Contains z r) (sym more)
    (in_tail w r (seat s).records (subst (λ (u : ℕ). Contains (seat u).records r) e c))) (λ _. c) in
    let origin : (t : ℕ) (r : Record) → Contains (put_at seat s p' t).records r → (w ≡ r)
    ⊎ Contains (seat t).records r = grind (arith, common_steps) in
    record {
      whole = λ t r h c. ⊎_elim
          (λ e. (
            has.0,
            has.1,
            has.2,
            has.3,
            has.4 ∙ ap (λ (z : Record). z.slot) e,
            has.5 ∙ ap
                (λ (z : Record). z.generation) e,
            has.6,
          ))
          (λ old. let o = m.whole t r h old in (o.0, o.1, o.2, still o.0 o.1 o.3, o.4, o.5, o.6))
          (origin t r c);
      text = λ t r h c. ⊎_elim
          (λ e. subst (λ (z : Record). core.all_put z.words ≡ true → is_chunk_text
          (core.put_words z.words) ≡ true) e text) (λ old. m.text t r h old) (origin t r c);
    }

never_whole : core.all_put no_words ≡ true → ⊥
never_whole e = cc

-- a pinning exchange is the machine's step
pub pins_go : PinIsStep
pins_go n slots id q i me idle below s k at small =
    let p : SeatView = the_view me.0 in let a = idle.alone in
    let f = knows n s k id q me a at in let c : Core = k.core in let w : ℕ = get_or s.words
    (slot_words * i) 0 in let p' : SeatView = pinned p i w in
    let safe = safe_of n s k in
    let resting : (c.seats p.number).state ≡ core.Idle = grind (arith, common_steps) in
    let number = f.small in let slot_count = k.counts.0 in let seat_count = k.counts.1 in
    let in_seats : nat_lt p.number c.seat_count ≡ true = grind (arith, common_steps) in
    let in_slots : nat_lt i c.slot_count ≡ true = lt-ltb i c.slot_count (omega arith) in
    let reads = k.table.states i below in
    let x : Slot = core.pinned_slot (c.slots i) p.number true in
    let reads' : Reads (bit_or w (2 ^ q)) x = subst (λ (z : ℕ). Reads (bit_or w (2 ^ z)) x) a.named
    (reads_pin w p.number (c.slots i) f.small reads) in
    let table = state_changes n s.words c.slots i (bit_or w (2 ^ q)) x k.table below reads' refl
    in
    let marked = marked_same c.slots (put_at c.slots i x) k.seat p.number p' k.marked
    (slot_same (λ z. z.done) c.slots i x refl) (slot_same (λ z. z.generation) c.slots i x refl)
    (ap (λ (z : SeatView). z.dones) (sym f.is)) (ap (λ (z : SeatView). z.frees) (sym f.is)) in
    let stray : (full done : Bool) → (c.slots i).full ≡ full → (c.slots i).done ≡ done →
    (full && not done ≡ false) → (pin_state i (w / 2 ^ generation_bit) (flag full) (flag done)
    ≡ Stray i) → (pin_records p i (w / 2 ^ generation_bit) (flag full) (flag done) ≡ p.records)
    → Goes n s k (record { seat = p.number; act = core.Pin i }) (slot_words * i)
    (bit_or w (2 ^ q)) id [] p' = λ full done hf hd none_here st rs.
    let r : Seat = in_state (c.seats p.number) (core.Stray i) in
    let state_is : p'.state ≡ Stray i = grind (arith, common_steps) in
    let records_are : p'.records ≡ p.records = grind (arith, common_steps) in
    keeps_by n s id (slot_words * i) (bit_or w (2 ^ q)) p p' k f.here refl
    (with_both c i x p.number r) (record { seat = p.number; act = core.Pin i })
    (ap (λ (m : Moved). m.0) (moves_pin c p.number i false in_seats in_slots resting
    ((λ j. hf j && not (hd j)) ∙ none_here))) (refl, refl) table
    (subst (λ z. Fits p' z) (sym (put_here c.seats p.number r))
    (record { state = state_is; records = grind (arith, common_steps) }))
    (λ t ne. put_else c.seats p.number t r ne) marked (whole_same k.seat p.number p' k.whole
    (records_are ∙ ap (λ (z : SeatView). z.records) (sym f.is))) in
    let held : (c.slots i).full ≡ true → (c.slots i).done ≡ false → Goes n s k
    (record { seat = p.number; act = core.Pin i }) (slot_words * i)
    (bit_or w (2 ^ q)) id [] p' = λ hf hd.
    let g : ℕ = (c.slots i).generation in
    let new : Record = record { slot = i; generation = g; words = no_words } in
    let made : core.Record =
    record { slot = i; generation = g; content = (c.slots i).content } in
    let r : Seat = core.recorded (c.seats p.number) (core.Pinned i g (c.slots i).content) made in
    let state_is : p'.state ≡ Pinned i g = grind (arith, common_steps) in
    let records_are : p'.records ≡ new ∷ p.records = grind (arith, common_steps) in
    let old = safe.records.kept i hf in let few : old.0 < seats_at_most =
    (let l = old.2 in omega arith) in
    let view = fit_back (k.seat old.0).records (c.seats old.0).records old.1
    (k.fits old.0 few).records old.3 in
    let full_one = k.whole.whole old.0 view.0 few view.1 in
    keeps_by n s id (slot_words * i) (bit_or w (2 ^ q)) p p' k f.here refl
    (with_both c i x p.number r) (record { seat = p.number; act = core.Pin i })
    (ap (λ (m : Moved). m.0) (moves_pin c p.number i true in_seats in_slots resting
    (λ j. hf j && not (hd j)))) (refl, refl) table
    (subst (λ z. Fits p' z) (sym (put_here c.seats p.number r))
    (record {
      state = state_is;
      records = subst (λ (l : List Record). RecordsFit l (made ∷ (c.seats p.number).records))
          (sym records_are) (
            record {
              slot = refl;
              generation = refl;
              long = refl;
              words = search (none_put, rules);
            },
            f.fits.records,
          );
    }))
    (λ t ne. put_else c.seats p.number t r ne) marked
    (whole_more k.seat p.number p' new k.whole f.small
    (records_are ∙ ap (λ (z : SeatView). new ∷ z.records) (sym f.is)) (
      full_one.0,
      full_one.1,
      full_one.2,
      put_cases (λ z. Contains z.records full_one.1) k.seat p.number full_one.0 p'
          (λ e. subst (λ (l : List Record). Contains l full_one.1) (sym records_are)
          (in_tail new full_one.1 p.records (subst (λ (z : SeatView). Contains z.records full_one.1)
          (ap k.seat e ∙ f.is) full_one.3))) (λ _. full_one.3),
      full_one.4 ∙ (view.2.slot ∙ old.4),
      full_one.5 ∙ (view.2.generation ∙ old.5),
      full_one.6,
    )
    (λ e. absurd (never_whole e))) in
    let kept : Goes n s k (record { seat = p.number; act = core.Pin i }) (slot_words * i)
    (bit_or w (2 ^ q)) id [] p' = ⊎_elim
    (λ hf. ⊎_elim (λ hd. stray true true hf hd refl refl refl) (λ hd. held hf hd)
    (cases_Bool (c.slots i).done)) (λ hf. ⊎_elim (λ hd. stray false true hf hd refl refl refl)
    (λ hd. stray false false hf hd refl refl refl) (cases_Bool (c.slots i).done))
    (cases_Bool (c.slots i).full) in
    let bare : me.1 ≡ [] = ap (λ (m : Me (Unit {0}) View). m.1) a.one in
    let newest : IsNewest p (slot_words * i) w = λ r m e. let o = fit_there p.records
    (c.seats p.number).records r f.fits.records m in let d =
    (safe.records.dated p.number o.0 o.1).0 in
    let fit = o.2 in let gen = fit.generation in let here : o.0.slot ≡ i =
    grind (arith, common_steps) in
    let same : (c.slots o.0.slot).generation ≡ w / 2 ^ generation_bit =
    grind (arith, common_steps) in omega arith in
    let goes = subst (λ l. Goes n s k (record { seat = p.number; act = core.Pin i })
    (slot_words * i) (bit_or w (2 ^ q)) id l p') (sym bare) kept in
    (one p', goes.0, goes.1, ((i, refl, λ j. (one p', bare j)), newest))

-- so it is allowed
pub pins_by : (n slots id q i : ℕ) (me : Me (Unit {0}) View) → IsIdle q me → i < n → Allows
    (Kept n) slots id me (slot_words * i) (λ w. bit_or w (2 ^ q))
    (pin_told (step slots (slot_words * i) (2 ^ q) 0 none) me)
pins_by n slots id q i me idle below = allows_of n slots id (slot_words * i) me
    (λ w. bit_or w (2 ^ q)) (of_seat me (core.Pin i))
    (pin_told (step slots (slot_words * i) (2 ^ q) 0 none) me)
    (pins_go n slots id q i me idle below)

-- the same, with the pin as the code has it
pub pins_with : (n slots id q i b : ℕ) (me : Me (Unit {0}) View) → b ≡ 2 ^ q → IsIdle q me → i < n
    → Allows (Kept n) slots id me (slot_words * i) (λ w. bit_or w b)
    (pin_told (step slots (slot_words * i) b 0 none) me)
pins_with n slots id q i b me e idle below = subst
    (λ (m : ℕ). Allows (Kept n) slots id me (slot_words * i) (λ w. bit_or w m)
    (pin_told (step slots (slot_words * i) m 0 none) me)) (sym e)
    (pins_by n slots id q i me idle below)
