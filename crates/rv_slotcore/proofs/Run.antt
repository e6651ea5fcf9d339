-- Every list of steps keeps the invariant.
use Rattle.rv_slotcore.proofs.Common.{seats_at_most, generation_bit, last_generation, ◌≡◌, ℕ, ◌/◌, ◌^◌, ◌<◌, ◌≤◌}
use Rattle.rv_slotcore.proofs.Common.{Bool, true, false, not, ◌&&◌, ◌==◌, nat_lt, List, [], ◌∷◌, length, Option}
use Rattle.rv_slotcore.proofs.Common.{Contains, sym, refl, ap, ◌∙◌, subst, arith, ⊎_elim, true≢false, eqb-true}
use Rattle.rv_slotcore.proofs.Common.{ne_eqb, eq-eqb, ltb-true, common_steps, Slot, SeatState, Idle}
use Rattle.rv_slotcore.proofs.Common.{Filling, Pinned, Stray, Seat, Core, Claim, Put, Publish, Pin, Get, Done}
use Rattle.rv_slotcore.proofs.Common.{Unpin, Free, Moved, start, after, run, moves, put_at, all_put, put_words}
use Rattle.rv_slotcore.proofs.Common.{done_slot, freed_slot, claims, puts, publishes, publishes_if, pins_as}
use Rattle.rv_slotcore.proofs.Common.{pins_on, gets, finishes, unpins, is_free_word, frees, frees_if, if_fits}
use Rattle.rv_slotcore.proofs.Common.{word_of, is_chunk_text, Protected, Agreeing, Dated}
use Rattle.rv_slotcore.specs.Machine.{Record, Act, Step}
use Rattle.rv_slotcore.proofs.Updates.{put_cases}
use Rattle.rv_slotcore.proofs.Words.{word_reads, free_word, both_true}
use Rattle.rv_slotcore.proofs.Invariant.{on, PutIn, Fills, Holds, Recorded, SafeOf, Safe, same_map}
use Rattle.rv_slotcore.proofs.Law.{claim_keeps, put_keeps, publish_keeps, pin_keeps, stray_keeps, unpin_keeps}

module _ (m : ℕ) (slots : ℕ → Slot) (seats : ℕ → Seat) (safe : SafeOf m slots seats) (i : ℕ) where
  done_keeps : (slots i).full ≡ true → SafeOf m (put_at slots i (done_slot (slots i))) seats
  done_keeps full = let y : Slot = done_slot (slots i) in record {
    flags = grind (arith, common_steps);
    pins = grind (arith, common_steps);
    filling = subst (λ (z : (ℕ → Bool) × (ℕ → Bool) × (ℕ → List ℕ)). Fills m z.0 z.1 z.2
        (λ s. (seats s).state))
        (λ k. (
          same_map (λ z. z.claimed) slots i y refl k,
          same_map (λ z. z.full) slots i y refl k,
          same_map (λ z. z.content) slots i y refl k,
        )) safe.filling;
    holding = subst (λ (z : (ℕ → Bool) × (ℕ → ℕ) × (ℕ → List ℕ)). Holds z.0 z.1 z.2
        (λ s. (seats s).state) (λ s. (seats s).records))
        (λ k. (
          same_map (λ z. z.full) slots i y refl k,
          same_map
              (λ z. z.generation) slots i y refl k,
          same_map (λ z. z.content) slots i y refl k,
        ))
        safe.holding;
    records = subst (λ (z : (ℕ → Bool) × (ℕ → ℕ) × (ℕ → List ℕ)). Recorded m z.0 z.1 z.2
        (λ s. (seats s).records))
        (λ k. (
          same_map (λ z. z.full) slots i y refl k,
          same_map
              (λ z. z.generation) slots i y refl k,
          same_map (λ z. z.content) slots i y refl k,
        ))
        safe.records;
  }

  free_keeps : (slots i).full ≡ true → ((t : ℕ) → (slots i).pins t ≡ false) → SafeOf m
      (put_at slots i (freed_slot (slots i))) seats
  free_keeps full bare = let y : Slot = freed_slot (slots i) in record {
    flags = grind (arith, common_steps);
    pins = grind (arith, common_steps);
    filling = record {
      fills = λ t k p e. let o = safe.filling.fills t k p e in put_cases
          (λ z. (z.claimed ≡ true) × (z.full ≡ false) × (length p ≡ 58) × PutIn p z.content) slots i
          k y (λ d. absurd (true≢false (sym full ∙ (ap (λ (u : ℕ). (slots u).full) (sym d) ∙ o.1))))
          (λ _. o);
      one = safe.filling.one;
      filled = grind (arith, common_steps);
      long = grind (arith, common_steps);
    };
    holding = record {
      pinned = λ t k g w e. let o = safe.holding.pinned t k g w e in put_cases
          (λ z. (z.full ≡ true) × (z.generation ≡ g) × (z.content ≡ w) × (rest : List Record) ×
          ((seats t).records ≡ record { slot = k; generation = g; content = w } ∷ rest)) slots i k y
          (λ d. absurd (true≢false (sym (eq-eqb i k (sym d)) ∙
          (sym (ap (λ z. on z i) e) ∙ (sym (safe.pins.each i t) ∙ bare t))))) (λ _. o);
    };
    records = record {
      dated = λ t r c. let o = safe.records.dated t r c in put_cases
          (λ z. (r.generation ≤ z.generation) × (r.generation ≡ z.generation → (z.full ≡ true) ×
          (z.content ≡ r.content))) slots i r.slot y
          (λ d. let is : (slots r.slot).generation ≡ (slots i).generation =
          grind (arith, common_steps) in let most = o.0 in
          (omega arith, λ e. absurd (omega arith))) (λ _. o);
      agree = safe.records.agree;
      kept = λ k. put_cases (λ z. z.full ≡ true → (s : ℕ) × (r : Record) × (s < m) × Contains
          (seats s).records r × (r.slot ≡ k) × (r.generation ≡ z.generation)) slots i k y
          (λ _ e. absurd (true≢false (sym e))) (λ _. safe.records.kept k);
    };
  }

module _ (c : Core) (safe : Safe c) (s : ℕ) where
  by_claim : (i : ℕ) (st : SeatState) (b : Bool) → s < c.seat_count → (c.seats s).state ≡ st →
      (c.slots i).claimed ≡ b → Safe (claims c s i st b).0
  by_claim i Idle false h e f = claim_keeps c.seat_count c.slots c.seats safe s i h e f
  by_claim i Idle true h e f = safe
  by_claim i (Filling k p) b h e f = safe
  by_claim i (Pinned k g w) b h e f = safe
  by_claim i (Stray k) b h e f = safe

  by_put : (j w : ℕ) (st : SeatState) → s < c.seat_count → j < 58 → (c.seats s).state ≡ st → Safe
      (puts c s j w st).0
  by_put j w Idle h l e = safe
  by_put j w (Filling i p) h l e = put_keeps c.seat_count c.slots c.seats safe s i h p j w e l
  by_put j w (Pinned k g v) h l e = safe
  by_put j w (Stray k) h l e = safe

  by_publish_if : (i : ℕ) (p : List (Option ℕ)) (b : Bool) → s < c.seat_count → (c.seats s).state
      ≡ Filling i p → (b ≡ true → all_put p ≡ true) → Safe (publishes_if c s i p b).0
  by_publish_if i p true h e f = publish_keeps c.seat_count c.slots c.seats safe s i h p e (f refl)
  by_publish_if i p false h e f = safe

  by_publish : (st : SeatState) → s < c.seat_count → (c.seats s).state ≡ st → Safe
      (publishes c s st).0
  by_publish Idle h e = safe
  by_publish (Filling i p) h e = by_publish_if i p (all_put p && is_chunk_text (put_words p)) h e
      (λ d. (both_true (all_put p) (is_chunk_text (put_words p)) d).0)
  by_publish (Pinned k g v) h e = safe
  by_publish (Stray k) h e = safe

  by_pin_as : (i : ℕ) (b : Bool) → s < c.seat_count → (c.seats s).state ≡ Idle →
      (b ≡ true → (c.slots i).full ≡ true) → Safe (pins_as c s i b).0
  by_pin_as i true h e f = pin_keeps c.seat_count c.slots c.seats safe s i h e (f refl)
  by_pin_as i false h e f = stray_keeps c.seat_count c.slots c.seats safe s i h e

  by_pin : (i : ℕ) (st : SeatState) → s < c.seat_count → (c.seats s).state ≡ st → Safe
      (pins_on c s i st).0
  by_pin i Idle h e = by_pin_as i ((c.slots i).full && not (c.slots i).done) h e
      (λ d. (both_true (c.slots i).full (not (c.slots i).done) d).0)
  by_pin i (Filling k p) h e = safe
  by_pin i (Pinned k g w) h e = safe
  by_pin i (Stray k) h e = safe

  by_get : (j : ℕ) (st : SeatState) → Safe (gets c s j st).0
  by_get j st = grind (arith, common_steps)

  by_done : (st : SeatState) → (c.seats s).state ≡ st → Safe (finishes c s st).0
  by_done Idle e = safe
  by_done (Filling k p) e = safe
  by_done (Pinned i g w) e = done_keeps c.seat_count c.slots c.seats safe i
      (safe.holding.pinned s i g w e).0
  by_done (Stray k) e = safe

  by_unpin : (st : SeatState) → s < c.seat_count → (c.seats s).state ≡ st → Safe (unpins c s st).0
  by_unpin Idle h e = safe
  by_unpin (Filling k p) h e = safe
  by_unpin (Pinned i g w) h e = unpin_keeps c.seat_count c.slots c.seats safe s i h
      (λ k p f. let d : Pinned i g w ≡ Filling k p = sym e ∙ f in cc)
      (λ k ne. ap (λ z. on z k) e ∙ ne_eqb k i ne)
  by_unpin (Stray i) h e = unpin_keeps c.seat_count c.slots c.seats safe s i h
      (λ k p f. let d : Stray i ≡ Filling k p = sym e ∙ f in cc)
      (λ k ne. ap (λ z. on z k) e ∙ ne_eqb k i ne)

  by_free_if : (i seen : ℕ) (a last same : Bool) → is_free_word seen ≡ a →
      (same ≡ true → word_of (c.slots i) ≡ seen) → Safe (frees_if c s i a last same).0
  by_free_if i seen false last same e f = safe
  by_free_if i seen true true same e f = safe
  by_free_if i seen true false false e f = safe
  by_free_if i seen true false true e f = let w = free_word (word_of (c.slots i)) (c.slots i)
      (ap is_free_word (f refl) ∙ e) (word_reads (c.slots i)) in
      free_keeps c.seat_count c.slots c.seats safe i w.1
      (λ t. ⊎_elim (λ low. w.3 t low) (λ high. let few = safe.pins.few in safe.pins.each i t
      ∙ ap (λ z. on z i) (safe.pins.rest t (omega arith)))
      (Rattle.std.proofs.lemmas.Bool.cases_lt t seats_at_most))

  by_free : (i seen : ℕ) (st : SeatState) → Safe (frees c s i seen st).0
  by_free i seen Idle = by_free_if i seen (is_free_word seen)
      (seen / 2 ^ generation_bit == last_generation)
      (word_of (c.slots i) == seen) refl (λ e. eqb-true (word_of (c.slots i)) seen e)
  by_free i seen (Filling k p) = safe
  by_free i seen (Pinned k g w) = safe
  by_free i seen (Stray k) = safe

  guarded : (b : Bool) (d : Moved) → (b ≡ true → Safe d.0) → Safe (if_fits c s b d).0
  guarded true d f = f refl
  guarded false d f = safe

  seated : nat_lt s c.seat_count ≡ true → s < c.seat_count
  seated e = ltb-true s c.seat_count e

  -- each act does
  pub moves_keep : (a : Act) → Safe (moves c s a).0
  moves_keep (Claim i) = guarded _ (claims c s i (c.seats s).state (c.slots i).claimed)
      (λ e. by_claim i (c.seats s).state (c.slots i).claimed
      (seated (both_true (nat_lt s c.seat_count) (nat_lt i c.slot_count) e).0) refl refl)
  moves_keep (Put j w) = guarded _ (puts c s j w (c.seats s).state)
      (λ e. let d = both_true (nat_lt s c.seat_count) (nat_lt j 58) e in by_put j w
      (c.seats s).state (seated d.0) (ltb-true j 58 d.1) refl)
  moves_keep Publish = guarded _ (publishes c s (c.seats s).state)
      (λ e. by_publish (c.seats s).state (seated e) refl)
  moves_keep (Pin i) = guarded _ (pins_on c s i (c.seats s).state) (λ e. by_pin i (c.seats s).state
      (seated (both_true (nat_lt s c.seat_count) (nat_lt i c.slot_count) e).0) refl)
  moves_keep (Get j) = guarded _ (gets c s j (c.seats s).state) (λ e. by_get j (c.seats s).state)
  moves_keep Done = guarded _ (finishes c s (c.seats s).state) (λ e. by_done (c.seats s).state refl)
  moves_keep Unpin = guarded _ (unpins c s (c.seats s).state)
      (λ e. by_unpin (c.seats s).state (seated e) refl)
  moves_keep (Free i seen) = guarded _ (frees c s i seen (c.seats s).state)
      (λ e. by_free i seen (c.seats s).state)

-- each list of steps does
pub run_keeps : (steps : List Step) (c : Core) → Safe c → Safe (run steps c)
run_keeps [] c h = h
run_keeps (e ∷ es) c h = run_keeps es (after c e) (moves_keep c h e.seat e.act)

-- the start has it
pub start_safe : (n m : ℕ) → m ≤ seats_at_most → Safe (start n m)
start_safe n m h = grind (arith, common_steps)

-- and it says that the state is safe
pub safe_means : (c : Core) → Safe c → Protected c × Agreeing c × Dated c
safe_means c h = (
  λ s i g w e. let o = h.holding.pinned s i g w e in (o.0, o.1, o.2),
  h.records.agree,
  λ s r d. (h.records.dated s r d).0,
)
