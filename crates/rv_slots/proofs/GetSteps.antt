-- A get keeps the rule, and is the step of the machine.
use Rattle.rv_slots.proofs.Common.{seats_at_most, slot_words, is_chunk_text, ◌≡◌, ◌⊎◌, ℕ, zero, suc, ◌+◌, ◌*◌}
use Rattle.rv_slots.proofs.Common.{◌<◌, true, ◌&&◌, nat_lt, List, [], ◌∷◌, length, get_or, set, Option, Some}
use Rattle.rv_slots.proofs.Common.{None, Contains, sym, refl, ap, ◌∙◌, subst, arith, ⊎_elim, lt-ltb}
use Rattle.rv_slots.proofs.Common.{none, Me, step, Allows, Core, Moved, put_at}
use Rattle.rv_slots.proofs.Common.{if_fits, moves, put_cases, View}
use Rattle.rv_slots.proofs.Common.{Record, SeatView, Kept, Whole, RecordsFit, RecordFits, length-set}
use Rattle.rv_slots.proofs.Common.{get_or-set_other, drop, rules, common_steps, dite, ℕ_discrete, whole_is}
use Rattle.rv_slots.proofs.Common.{the_view, got, get_told, known, pin_words, IsText, GetIsStep, of_seat}
use Rattle.rv_slots.proofs.Common.{IsPinned, pin_record, pinned_at}
use Rattle.rv_slots.proofs.Words.{loads}
use Rattle.rv_slots.proofs.Knowing.{knows, shown_pinned, safe_of, in_head, in_tail, in_cons, fit_there}
use Rattle.rv_slots.proofs.Seating.{Goes, allows_of, one, keeps_by, marked_same}
use Rattle.rv_slotcore.specs.Machine as core

moves_get : (c : Core) (s j i g : ℕ) (v : List ℕ) → nat_lt s c.seat_count ≡ true → nat_lt j 58
    ≡ true → (c.seats s).state ≡ core.Pinned i g v → moves c s (core.Get j) ≡ core.gets c s j
    (core.Pinned i g v)
moves_get c s j i g v h l e = λ k. if_fits c s (h k && l k) (core.gets c s j (e k))

abbrev with_word : Record → ℕ → ℕ → Record
with_word r j w = record {
  slot = r.slot;
  generation = r.generation;
  words = set r.words j
      (Some w);
}

fits_more : (r : Record) (q : core.Record) (j w : ℕ) → RecordFits r q → get_or q.content j 0 ≡ w
    → RecordFits (with_word r j w) q
fits_more r q j w f e = let wide = f.long in record {
  slot = f.slot;
  generation = f.generation;
  long = length-set r.words j (Some w) ∙ f.long;
  words = λ k v h. dite (ℕ_discrete k j) (λ d. ⊎_elim
      (λ low. let s : Some w ≡ Some v = grind (arith, common_steps) in let same : w ≡ v = cc in
      ap (λ (u : ℕ). get_or q.content u 0) d ∙ (e ∙ same)) (λ high. f.words k v
      (sym (ap (λ (l : List (Option ℕ)). get_or l k None)
      (Rattle.std.proofs.lemmas.List.set_past r.words j (Some w) high)) ∙ h))
      (Rattle.std.proofs.lemmas.Bool.cases_lt j (length r.words)))
      (λ ne. f.words k v (sym (get_or-set_other r.words j k (Some w) None ne) ∙ h));
}

all_more : (p : List (Option ℕ)) (j w : ℕ) → core.all_put p ≡ true → core.all_put
    (set p j (Some w)) ≡ true
all_more [] j w h = h
all_more (None ∷ p) zero w h = absurd (cc)
all_more (None ∷ p) (suc j) w h = h
all_more (Some v ∷ p) zero w h = h
all_more (Some v ∷ p) (suc j) w h = all_more p j w h

-- a record gets a word more
whole_with : (seat : ℕ → SeatView) (s : ℕ) (p' : SeatView) (r r' : Record) (rs : List Record)
    → Whole seat → s < seats_at_most → (seat s).records ≡ r ∷ rs → p'.records ≡ r' ∷ rs → r'.slot
    ≡ r.slot → r'.generation ≡ r.generation
    → (core.all_put r.words ≡ true → core.all_put r'.words ≡ true) →
    (core.all_put r'.words ≡ true → is_chunk_text (core.put_words r'.words) ≡ true) → Whole
    (put_at seat s p')
whole_with seat s p' r r' rs m l was is slot gen all text =
    let origin : (t : ℕ) (z : Record) → Contains (put_at seat s p' t).records z →
    ((r' ≡ z) × (t ≡ s)) ⊎ Contains (seat t).records z = grind (arith, common_steps) in
    let still : (t : ℕ) (z : Record) → Contains (seat t).records z → core.all_put z.words ≡ true →
    (y : Record) × Contains (put_at seat s p' t).records y × (y.slot ≡ z.slot) ×
    (y.generation ≡ z.generation) × (core.all_put y.words ≡ true) =
    λ t z c h. put_cases (λ v. (y : Record) × Contains v.records y × (y.slot ≡ z.slot) ×
    (y.generation ≡ z.generation) × (core.all_put y.words ≡ true)) seat s t p' (λ e. ⊎_elim
    (λ d. (
      r',
      subst (λ (y : List Record). Contains y r') (sym is) (in_head r' rs),
      slot
          ∙ ap (λ (y : Record). y.slot) d,
      gen ∙ ap (λ (y : Record). y.generation) d,
      all
          (ap (λ (y : Record). core.all_put y.words) d ∙ h),
    ))
    (λ d. (
      z,
      subst (λ (y : List Record). Contains y z) (sym is) (in_tail r' z rs d),
      refl,
      refl,
      h,
    ))
    (in_cons r z rs (subst (λ (y : List Record). Contains y z) was
    (subst (λ (u : ℕ). Contains (seat u).records z) e c)))) (λ _. (z, c, refl, refl, h)) in
    record {
      whole = λ t z h c. ⊎_elim
          (λ d. let o = m.whole s r l (subst (λ (y : List Record). Contains y r) (sym was)
          (in_head r rs)) in let y = still o.0 o.1 o.3 o.6 in (
            o.0,
            y.0,
            o.2,
            y.1,
            y.2 ∙ (o.4 ∙ (sym slot ∙ ap (λ (v : Record). v.slot) d.0)),
            y.3 ∙
                (o.5 ∙ (sym gen ∙ ap (λ (v : Record). v.generation) d.0)),
            y.4,
          ))
          (λ old. let o = m.whole t z h old in let y = still o.0 o.1 o.3 o.6 in
          (o.0, y.0, o.2, y.1, y.2 ∙ o.4, y.3 ∙ o.5, y.4))
          (origin t z c);
      text = λ t z h c. ⊎_elim
          (λ d. subst (λ (y : Record). core.all_put y.words ≡ true → is_chunk_text
          (core.put_words y.words) ≡ true) d.0 text) (λ old. m.text t z h old) (origin t z c);
    }

-- a getting exchange is the machine's step
pub gets_go : GetIsStep
gets_go n slots id q i j me holds below within s k at small = let a = holds.alone in
    let p : SeatView = the_view me.0 in
    let f = knows n s k id q me a at in let c : Core = k.core in let w : ℕ = get_or s.words
    (slot_words * i + (1 + j)) 0 in
    let number = f.small in let slot_count = k.counts.0 in let seat_count = k.counts.1 in
    let in_seats : nat_lt p.number c.seat_count ≡ true = grind (arith, common_steps) in
    let p' : SeatView = got p i j w in let safe = safe_of n s k in
    let was = shown_pinned (c.seats p.number).state i (pinned_at p.state)
    (sym holds.state ∙ f.fits.state) in
    let law = safe.holding.pinned p.number i (pinned_at p.state) was.0 was.1 in
    let r : Record = pin_record p in let rs : List Record = drop 1 p.records in
    let made : core.Record = record {
      slot = i;
      generation = pinned_at p.state;
      content = was.0;
    } in
    let both : RecordsFit (r ∷ rs) (made ∷ law.3) = grind (arith, common_steps) in
    let is : get_or was.0 j 0 ≡ w = search rules in
    let more = fits_more r made j w both.0 is in
    let records_are : p'.records ≡ with_word r j w ∷ rs = grind (arith, common_steps) in
    let text : core.all_put (set r.words j (Some w)) ≡ true → is_chunk_text
    (core.put_words (set r.words j (Some w))) ≡ true = λ all.
    let o = k.whole.whole p.number r f.small (subst (λ (l : List Record). Contains l r)
    (sym (ap (λ (z : SeatView). z.records) f.is ∙ holds.records)) (in_head r rs)) in
    let there = fit_there (k.seat o.0).records (c.seats o.0).records o.1
    (k.fits o.0 o.2).records o.3 in
    let agree = safe.records.agree o.0 p.number there.0 made there.1
    (subst (λ (l : List core.Record). Contains l made) (sym law.4) (in_head made law.3))
    (sym there.2.slot ∙ (o.4 ∙ both.0.slot)) (sym there.2.generation ∙ (o.5 ∙ both.0.generation)) in
    let wide : length was.0 ≡ 58 = search rules in
    let mine : core.put_words (set r.words j (Some w)) ≡ was.0 = search (whole_is, rules) in
    let theirs : core.put_words o.1.words ≡ there.0.content = whole_is o.1.words there.0.content o.6
    (there.2.long ∙ sym (ap (λ (l : List ℕ). length l) agree ∙ wide)) there.2.words in
    ap is_chunk_text (mine ∙ (sym agree ∙ sym theirs)) ∙ k.whole.text o.0 o.1 o.2 o.3 o.6 in
    let kept : Goes n s k (record { seat = p.number; act = core.Get j })
    (slot_words * i + (1 + j)) w id [] p' = keeps_by n s id
    (slot_words * i + (1 + j)) w p p' k f.here refl c (record { seat = p.number; act = core.Get j })
    (ap (λ (m : Moved). m.0) (moves_get c p.number j i (pinned_at p.state) was.0 in_seats
    (lt-ltb j 58 within) was.1)) (refl, refl)
    (loads n s.words c.slots (slot_words * i + (1 + j)) k.table)
    (record { state = f.fits.state; records = grind (arith, common_steps) })
    (λ t ne. refl) (marked_same c.slots c.slots k.seat p.number p' k.marked (λ u. refl) (λ u. refl)
    (ap (λ (z : SeatView). z.dones) (sym f.is)) (ap (λ (z : SeatView). z.frees) (sym f.is)))
    (whole_with k.seat p.number p' r (with_word r j w) rs k.whole f.small
    (ap (λ (z : SeatView). z.records) f.is ∙ holds.records) records_are refl refl
    (all_more r.words j w) text) in
    let bare : me.1 ≡ [] = ap (λ (m : Me (Unit {0}) View). m.1) a.one in
    let goes = subst (λ l. Goes n s k (record { seat = p.number; act = core.Get j })
    (slot_words * i + (1 + j)) w id l p') (sym bare) kept in (
      one p',
      goes.0,
      goes.1,
      (
        (i, j, within, refl, λ u. (one p', bare u)),
        λ j' v l i' e h. let same_j : j' ≡ j = omega arith in sym is ∙
            (ap (λ (u : ℕ). get_or was.0 u 0) (sym same_j) ∙ both.0.words j' v
            (sym (ap (λ (l : List Record). known l j') holds.records) ∙ h)),
        subst (λ (l : List Record). IsText (pin_words l)) (sym records_are) text,
      ),
    )

-- so it is allowed
pub gets_by : (n slots id q i j : ℕ) (me : Me (Unit {0}) View) → IsPinned q i me → i < n → j < 58
    → Allows (Kept n) slots id me (slot_words * i + (1 + j)) (λ w. w)
    (get_told (step slots (slot_words * i + (1 + j)) 0 0 none) me)
gets_by n slots id q i j me holds below within = allows_of n slots id
    (slot_words * i + (1 + j)) me (λ w. w) (of_seat me (core.Get j))
    (get_told (step slots (slot_words * i + (1 + j)) 0 0 none) me)
    (gets_go n slots id q i j me holds below within)
