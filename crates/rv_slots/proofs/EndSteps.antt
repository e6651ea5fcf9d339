-- A done and a free keep the rule, and are the steps of the machine.
use Rattle.rv_slots.proofs.Common.{done_bit, generation_bit, last_generation, seats_at_most, slot_words, ◌≡◌, ◌≢◌}
use Rattle.rv_slots.proofs.Common.{◌⊎◌, ℕ, ◌+◌, ◌*◌, ◌/◌, ◌^◌, ◌<◌, ◌≤◌, Bool, true, false, nat_lt, List, [], ◌∷◌}
use Rattle.rv_slots.proofs.Common.{get_or, bit_or, Contains, sym, refl, ap, ◌∙◌, subst, arith, ⊎_elim, lt-ltb}
use Rattle.rv_slots.proofs.Common.{none, Me, step, Allows, Core, Slot, Moved, put_at}
use Rattle.rv_slots.proofs.Common.{with_slot, if_fits, moves, put_cases}
use Rattle.rv_slots.proofs.Common.{put_here, View, Mark, SeatView, Kept, Marked, HasMark, eqb, ◌==◌, true≢false}
use Rattle.rv_slots.proofs.Common.{eq-eqb, ne_eqb, cases_lt, common_steps, rules, either, exchanged, one_word}
use Rattle.rv_slots.proofs.Common.{word_reads, the_view, finished, freed, done_told, free_told, DoneIsStep}
use Rattle.rv_slots.proofs.Common.{FreeIsStep, of_seat, IsIdle, IsPinned}
use Rattle.rv_slots.proofs.Words.{state_changes, loads, reads_done, reads_free}
use Rattle.rv_slots.proofs.Knowing.{knows, shown_pinned, in_head, in_tail}
use Rattle.rv_slots.proofs.Seating.{Goes, allows_of, one, keeps_by, marked_same, whole_same, field_same}
use Rattle.rv_slotcore.specs.Machine as core

moves_done : (c : Core) (s i g : ℕ) (v : List ℕ) → nat_lt s c.seat_count ≡ true →
    (c.seats s).state ≡ core.Pinned i g v → moves c s core.Done ≡ core.finishes c s
    (core.Pinned i g v)
moves_done c s i g v h e = λ k. if_fits c s (h k) (core.finishes c s (e k))

abbrev mark : ℕ → ℕ → Mark
mark i g = record { slot = i; generation = g }

-- one mark more in a row of lists
module _ (F : SeatView → List Mark) (seat : ℕ → SeatView) (s : ℕ) (p' : SeatView) (m : Mark)
    (more : F p' ≡ m ∷ F (seat s)) where
  -- old marks stay
  pub mark_still : (t : ℕ) (z : Mark) → Contains (F (seat t)) z → Contains
      (F (put_at seat s p' t)) z
  mark_still t z c = put_cases (λ v. Contains (F v) z) seat s t p'
      (λ e. subst (λ (l : List Mark). Contains l z) (sym more)
      (in_tail m z (F (seat s)) (subst (λ (u : ℕ). Contains (F (seat u)) z) e c))) (λ _. c)

  -- the new mark is there
  pub mark_new : Contains (F (put_at seat s p' s)) m
  mark_new = subst (λ (v : SeatView). Contains (F v) m) (sym (put_here seat s p'))
      (subst (λ (l : List Mark). Contains l m) (sym more) (in_head m (F (seat s))))

  -- a mark is the new one or an old one
  pub mark_origin : (t : ℕ) (z : Mark) → Contains (F (put_at seat s p' t)) z → (m ≡ z) ⊎ Contains
      (F (seat t)) z
  mark_origin t z = grind (arith, common_steps)

-- a finishing exchange is the machine's step
pub finishes_go : DoneIsStep
finishes_go n slots id q i me holds below s k at small = let a = holds.alone in
    let p : SeatView = the_view me.0 in
    let f = knows n s k id q me a at in let c : Core = k.core in let w : ℕ = get_or s.words
    (slot_words * i) 0 in
    let number = f.small in let slot_count = k.counts.0 in let seat_count = k.counts.1 in
    let in_seats : nat_lt p.number c.seat_count ≡ true = grind (arith, common_steps) in
    let p' : SeatView = finished p i w in let reads = k.table.states i below in let x : Slot =
    core.done_slot (c.slots i) in let g : ℕ = (c.slots i).generation in
    let was = shown_pinned (c.seats p.number).state i _ (sym holds.state ∙ f.fits.state) in
    let dones : p'.dones ≡ mark i g ∷ (k.seat p.number).dones =
    λ j. record { slot = i; generation = reads.generation j } ∷ (sym f.is j).dones in
    let still = mark_still (λ z. z.dones) k.seat p.number p' (mark i g) dones in let new =
    mark_new (λ z. z.dones) k.seat p.number p' (mark i g) dones in let origin = mark_origin
    (λ z. z.dones) k.seat p.number p' (mark i g) dones in
    let frees : (t : ℕ) → (put_at k.seat p.number p' t).frees ≡ (k.seat t).frees =
    grind (arith, common_steps) in
    let marked : Marked (put_at c.slots i x) (put_at k.seat p.number p') = record {
      marks = grind (arith, common_steps);
      marked = λ t m h l c'. put_cases
          (λ z. (h ≤ z.generation) × (h ≡ z.generation → z.done ≡ true)) c.slots i m x
          (λ e. (
            ⊎_elim (λ d. let hg : g ≡ h = ap (λ (z : Mark). z.generation) d in
                omega arith) (λ old. subst (λ (u : ℕ). h ≤ (c.slots u).generation) e
                (k.marked.marked t m h l old).0) (origin t (mark m h) c'),
            λ _. refl,
          ))
          (λ ne. ⊎_elim (λ d. absurd (ne (sym (ap (λ (z : Mark). z.slot) d))))
          (λ old. k.marked.marked t m h l old) (origin t (mark m h) c'));
      freed = λ m h. put_cases (λ z. h < z.generation → (t : ℕ) × (t < seats_at_most)
          × HasMark (put_at k.seat p.number p' t).frees m h) c.slots i m x
          (λ e d. let o = k.marked.freed i h d in (
            o.0,
            o.1,
            subst (λ (l : List Mark). HasMark l m h) (sym (frees o.0))
                (subst (λ (u : ℕ). HasMark (k.seat o.0).frees u h) (sym e) o.2),
          ))
          (λ _ d. let o = k.marked.freed m h d in
          (o.0, o.1, subst (λ (l : List Mark). HasMark l m h) (sym (frees o.0)) o.2));
      older = λ t m h l c'. let o = k.marked.older t m h l
          (subst (λ (z : List Mark). HasMark z m h) (frees t) c') in put_cases
          (λ z. h < z.generation) c.slots i m x
          (λ e. subst (λ (u : ℕ). h < (c.slots u).generation) e o) (λ _. o);
    } in
    let kept : Goes n s k (record { seat = p.number; act = core.Done }) (slot_words * i)
    (bit_or w (2 ^ done_bit)) id [] p' = keeps_by n s id (slot_words * i)
    (bit_or w (2 ^ done_bit)) p p' k f.here refl (with_slot c i x)
    (record { seat = p.number; act = core.Done })
    (ap (λ (m : Moved). m.0) (moves_done c p.number i _ was.0 in_seats was.1)) (refl, refl)
    (state_changes n s.words c.slots i (bit_or w (2 ^ done_bit)) x k.table below
    (reads_done w (c.slots i) reads) refl)
    (record { state = f.fits.state; records = f.fits.records }) (λ t ne. refl) marked
    (whole_same k.seat p.number p' k.whole (ap (λ (z : SeatView). z.records) (sym f.is))) in
    let bare : me.1 ≡ [] = ap (λ (m : Me (Unit {0}) View). m.1) a.one in
    let goes = subst (λ l. Goes n s k (record { seat = p.number; act = core.Done })
    (slot_words * i) (bit_or w (2 ^ done_bit)) id l p') (sym bare) kept in
    (one p', goes.0, goes.1, (i, refl, λ u. (one p', bare u)))

moves_free : (c : Core) (s i seen : ℕ) (b : Bool) → nat_lt s c.seat_count ≡ true
    → nat_lt i c.slot_count ≡ true → (c.seats s).state ≡ core.Idle → core.is_free_word seen ≡ true
    → (seen / 2 ^ generation_bit == last_generation) ≡ false → (core.word_of (c.slots i) == seen)
    ≡ b → moves c s (core.Free i seen) ≡ core.frees_if c s i true false b
moves_free c s i seen b h g e fit low same = grind (arith, common_steps)

-- a freeing exchange is the machine's step
pub frees_go : FreeIsStep
frees_go n slots id q i seen me idle below fit low s k at small = let a = idle.alone in
    let p : SeatView = the_view me.0 in
    let f = knows n s k id q me a at in let c : Core = k.core in let w : ℕ = get_or s.words
    (slot_words * i) 0 in
    let number = f.small in let slot_count = k.counts.0 in let seat_count = k.counts.1 in
    let in_seats : nat_lt p.number c.seat_count ≡ true = grind (arith, common_steps) in
    let p' : SeatView = freed p i seen w in let reads = k.table.states i below in let next : ℕ =
    (seen / 2 ^ generation_bit + 1) * 2 ^ generation_bit in
    let in_slots : nat_lt i c.slot_count ≡ true = lt-ltb i c.slot_count (omega arith) in
    let resting : (c.seats p.number).state ≡ core.Idle = grind (arith, common_steps) in
    let last : (seen / 2 ^ generation_bit == last_generation) ≡ false =
    grind (arith, common_steps) in
    let own : core.word_of (c.slots i) ≡ w = search (one_word, word_reads) in
    let kept : Goes n s k (record { seat = p.number; act = core.Free i seen }) (slot_words * i)
    (either (eqb w seen) next w) id [] p' = exchanged w seen next
    (λ z. Goes n s k (record { seat = p.number; act = core.Free i seen })
    (slot_words * i) z id [] p')
    (λ hit. let x : Slot = core.freed_slot (c.slots i) in let g : ℕ = (c.slots i).generation
    in
    let gen : seen / 2 ^ generation_bit ≡ g = grind (arith, common_steps) in
    let frees : p'.frees ≡ mark i g ∷ (k.seat p.number).frees = search (eq-eqb, rules) in
    let still = mark_still (λ z. z.frees) k.seat p.number p' (mark i g) frees in let new =
    mark_new (λ z. z.frees) k.seat p.number p' (mark i g) frees in let origin =
    mark_origin (λ z. z.frees) k.seat p.number p' (mark i g) frees in
    let dones : (t : ℕ) → (put_at k.seat p.number p' t).dones ≡ (k.seat t).dones =
    field_same (λ z. z.dones) k.seat p.number p' (ap (λ (z : SeatView). z.dones) (sym f.is)) in
    let marked : Marked (put_at c.slots i x) (put_at k.seat p.number p') = record {
      marks = λ m. put_cases (λ z. z.done ≡ true → (t : ℕ) × (t < seats_at_most) × HasMark
          (put_at k.seat p.number p' t).dones m z.generation) c.slots i m x
          (λ _ d. absurd (true≢false (sym d)))
          (λ _ d. let o = k.marked.marks m d in (
            o.0,
            o.1,
            subst (λ (l : List Mark). HasMark l m (c.slots m).generation)
                (sym (dones o.0)) o.2,
          ));
      marked = λ t m h l c'. let o = k.marked.marked t m h l
          (subst (λ (z : List Mark). HasMark z m h) (dones t) c') in put_cases
          (λ z. (h ≤ z.generation) × (h ≡ z.generation → z.done ≡ true)) c.slots i m x
          (λ e. let is : (c.slots m).generation ≡ g = grind (arith, common_steps) in let most = o.0 in
          (omega arith, λ d. absurd (omega arith))) (λ _. o);
      freed = λ m h. put_cases (λ z. h < z.generation → (t : ℕ) × (t < seats_at_most)
          × HasMark (put_at k.seat p.number p' t).frees m h) c.slots i m x (λ e d. ⊎_elim
          (λ lower. let o = k.marked.freed i h lower in (
            o.0,
            o.1,
            still o.0 (mark m h)
                (subst (λ (u : ℕ). HasMark (k.seat o.0).frees u h) (sym e) o.2),
          ))
          (λ equal. let is : g ≡ h = omega arith in (
            p.number,
            f.small,
            subst (λ (z : Mark). Contains (put_at k.seat p.number p' p.number).frees z)
                (λ j. mark (sym e j) (is j)) new,
          )) (cases_lt h g))
          (λ _ d. let o = k.marked.freed m h d in (o.0, o.1, still o.0 (mark m h) o.2));
      older = λ t m h l c'. ⊎_elim (λ d. put_cases (λ z. h < z.generation) c.slots i m x
          (λ e. let hg : g ≡ h = ap (λ (z : Mark). z.generation) d in omega arith)
          (λ ne. absurd (ne (sym (ap (λ (z : Mark). z.slot) d)))))
          (λ old. let o = k.marked.older t m h l old in put_cases
          (λ z. h < z.generation) c.slots i m x
          (λ e. let is : (c.slots m).generation ≡ g = grind (arith, common_steps) in omega arith) (λ _. o))
          (origin t (mark m h) c');
    } in
    keeps_by n s id (slot_words * i) next p p' k f.here refl (with_slot c i x)
    (record { seat = p.number; act = core.Free i seen }) (ap (λ (m : Moved). m.0)
    (moves_free c p.number i seen true in_seats in_slots resting fit last
    (eq-eqb (core.word_of (c.slots i)) seen (own ∙ hit)))) (refl, refl)
    (state_changes n s.words c.slots i next x k.table below
    (reads_free (seen / 2 ^ generation_bit) (c.slots i) gen) refl)
    (record { state = f.fits.state; records = f.fits.records }) (λ t ne. refl) marked
    (whole_same k.seat p.number p' k.whole (ap (λ (z : SeatView). z.records) (sym f.is))))
    (λ miss. let frees : p'.frees ≡ p.frees = search (ne_eqb, rules) in
    keeps_by n s id (slot_words * i) w p p' k f.here refl c
    (record { seat = p.number; act = core.Free i seen }) (ap (λ (m : Moved). m.0)
    (moves_free c p.number i seen false in_seats in_slots resting fit last
    (ne_eqb (core.word_of (c.slots i)) seen (λ e. miss (sym own ∙ e))))) (refl, refl)
    (loads n s.words c.slots (slot_words * i) k.table)
    (record { state = f.fits.state; records = f.fits.records }) (λ t ne. refl)
    (marked_same c.slots c.slots k.seat p.number p' k.marked (λ j. refl) (λ j. refl)
    (ap (λ (z : SeatView). z.dones) (sym f.is)) (frees ∙ ap (λ (z : SeatView). z.frees) (sym f.is)))
    (whole_same k.seat p.number p' k.whole (ap (λ (z : SeatView). z.records) (sym f.is))))
    in
    let bare : me.1 ≡ [] = ap (λ (m : Me (Unit {0}) View). m.1) a.one in
    let goes = subst (λ l. Goes n s k (record { seat = p.number; act = core.Free i seen })
    (slot_words * i) (either (eqb w seen) next w) id l p') (sym bare) kept in
    (one p', goes.0, goes.1, (i, refl, λ u. (one p', bare u)))

-- so a finishing exchange is allowed
pub finishes_by : (n slots id q i : ℕ) (me : Me (Unit {0}) View) → IsPinned q i me → i < n
    → Allows (Kept n) slots id me (slot_words * i) (λ w. bit_or w (2 ^ done_bit))
    (done_told (step slots (slot_words * i) (2 ^ done_bit) 0 none) me)
finishes_by n slots id q i me holds below = allows_of n slots id (slot_words * i) me
    (λ w. bit_or w (2 ^ done_bit)) (of_seat me core.Done)
    (done_told (step slots (slot_words * i) (2 ^ done_bit) 0 none) me)
    (finishes_go n slots id q i me holds below)

-- so a freeing exchange is allowed
pub frees_by : (n slots id q i seen : ℕ) (me : Me (Unit {0}) View) → IsIdle q me → i < n
    → core.is_free_word seen ≡ true → seen / 2 ^ generation_bit ≢ last_generation
    → Allows (Kept n) slots id me (slot_words * i)
    (λ w. either (eqb w seen) ((seen / 2 ^ generation_bit + 1) * 2 ^ generation_bit) w) (free_told
    (step slots (slot_words * i) seen
    ((seen / 2 ^ generation_bit + 1) * 2 ^ generation_bit) none) me)
frees_by n slots id q i seen me idle below fit low = allows_of n slots id (slot_words * i) me
    (λ w. either (eqb w seen) ((seen / 2 ^ generation_bit + 1) * 2 ^ generation_bit) w)
    (of_seat me (core.Free i seen)) (free_told
    (step slots (slot_words * i) seen ((seen / 2 ^ generation_bit + 1) * 2 ^ generation_bit) none)
    me) (frees_go n slots id q i seen me idle below fit low)

-- the same, with the next word as the code has it
pub frees_to : (n slots id q i seen b : ℕ) (me : Me (Unit {0}) View) → b ≡
    (seen / 2 ^ generation_bit + 1) * 2 ^ generation_bit → IsIdle q me → i < n
    → core.is_free_word seen ≡ true → seen / 2 ^ generation_bit ≢ last_generation
    → Allows (Kept n) slots id me (slot_words * i) (λ w. either (eqb w seen) b w)
    (free_told (step slots (slot_words * i) seen b none) me)
frees_to n slots id q i seen b me e idle below fit low = subst
    (λ (m : ℕ). Allows (Kept n) slots id me (slot_words * i) (λ w. either (eqb w seen) m w)
    (free_told (step slots (slot_words * i) seen m none) me)) (sym e)
    (frees_by n slots id q i seen me idle below fit low)
