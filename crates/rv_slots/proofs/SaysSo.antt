-- The rule says what is promised of the running table.
use Rattle.rv_slots.proofs.Common.{generation_bit, seats_at_most, slot_words, ◌≡◌, ℕ, ◌*◌, ◌/◌, ◌^◌, ◌<◌, true}
use Rattle.rv_slots.proofs.Common.{List, get_or, Contains, sym, ap, ◌∙◌, subst, arith, true≢false, eqb-true}
use Rattle.rv_slots.proofs.Common.{eq-eqb, rules, common_steps, State, flag, flag_one, flag_none}
use Rattle.rv_slots.proofs.Common.{Safe, on, safe_means, View, Record, SeatView, At, Kept, Fits, RecordFits}
use Rattle.rv_slots.proofs.Common.{shown, HasMark, Stands, IsOn, Says, RuleSays}
use Rattle.rv_slots.proofs.Seating.{at_one}
use Rattle.rv_slots.proofs.Knowing.{safe_of, shown_filling, shown_pinned, fit_back, fit_there}
use Rattle.rv_slotcore.specs.Machine as core

on_is : (st : core.SeatState) (i : ℕ) → on st i ≡ true → IsOn (shown st) i
on_is core.Idle i e = true≢false (sym e)
on_is (core.Filling k p) i e = true≢false (sym e)
on_is (core.Pinned k g w) i e = eqb-true i k e
on_is (core.Stray k) i e = eqb-true i k e

is_on : (st : core.SeatState) (i : ℕ) → IsOn (shown st) i → on st i ≡ true
is_on core.Idle i e = absurd e
is_on (core.Filling k p) i e = absurd e
is_on (core.Pinned k g w) i e = eq-eqb i k e
is_on (core.Stray k) i e = eq-eqb i k e

module _ (n : ℕ) (s : State (Unit {0}) View) (k : Kept n s) where
  safe : Safe k.core
  safe = safe_of n s k

  -- a seat of the rule stands in a view
  stands : (t : ℕ) → t < seats_at_most → Stands s.views (k.seat t)
  stands t h = (k.row t, k.column t, k.seated.there t h)

  -- a seat in a view is the rule's
  stood : (p : SeatView) → Stands s.views p → (p.number < seats_at_most) × (k.seat p.number ≡ p)
      × Fits p (k.core.seats p.number)
  stood p a = let o = k.seated.only a.0 a.1 p a.2 in
      let is : k.seat p.number ≡ p = at_one s.views a.0 a.1 (k.seat p.number) p
      (subst (λ (z : ℕ × ℕ). At s.views z.0 z.1 (k.seat p.number)) (λ i. (o.1 i, o.2 i))
      (k.seated.there p.number o.0)) a.2 in
      (o.0, is, subst (λ z. Fits z (k.core.seats p.number)) is (k.fits p.number o.0))

  -- the machine's record behind a record
  behind : (p : SeatView) (r : Record) → Stands s.views p → Contains p.records r →
      (q : core.Record) × Contains (k.core.seats p.number).records q × RecordFits r q
  behind p r a c = fit_there p.records (k.core.seats p.number).records r (stood p a).2.records c

  same_generation : (i : ℕ) → i < n → (get_or s.words (slot_words * i) 0 / 2 ^ generation_bit ≡
      (k.core.slots i).generation)
  same_generation i h = (k.table.states i h).generation

  -- what the rule says of a state
  pub says : Says n s
  says = record {
    once = λ a b c d p q x y e. let u = k.seated.only a b p x in let v = k.seated.only c d q y in
        (sym u.1 ∙ (ap k.row e ∙ v.1), sym u.2 ∙ (ap k.column e ∙ v.2));
    flags = λ i h. let r = k.table.states i h in (
      λ e. r.claimed ∙ ap flag
          (safe.flags.order i (flag_one (k.core.slots i).full (sym r.full ∙ e))),
      λ e. r.full
          ∙ ap flag (safe.flags.ended i (flag_one (k.core.slots i).done (sym r.done ∙ e))),
    );
    pins = grind (arith, common_steps, safe, flag_one, stands, on_is, stood, is_on);
    filling = λ i h. let r = k.table.states i h in (
      λ e. let o = safe.filling.filled i (flag_one (k.core.slots i).claimed (sym r.claimed ∙ e.0))
          (flag_none (k.core.slots i).full (sym r.full ∙ e.1)) in
          let few : o.0 < seats_at_most = (let l = o.2 in let c = k.counts.1 in omega arith) in
          (k.seat o.0, o.1, stands o.0 few, (k.fits o.0 few).state ∙ ap shown o.3),
      λ w. let o = stood w.0 w.2 in let was = shown_filling
          (k.core.seats w.0.number).state i w.1 (sym w.3 ∙ o.2.state) in let f =
          safe.filling.fills w.0.number i w.1 was in
          (r.claimed ∙ ap flag f.0, r.full ∙ ap flag f.1),
    );
    filler = λ i p q ws vs a b e f. safe.filling.one p.number q.number i ws vs
        (shown_filling (k.core.seats p.number).state i ws (sym e ∙ (stood p a).2.state))
        (shown_filling (k.core.seats q.number).state i vs (sym f ∙ (stood q b).2.state));
    put = λ i j w p ws h l a e g. let was = shown_filling (k.core.seats p.number).state i ws
        (sym e ∙ (stood p a).2.state) in k.table.contents i j h l ∙
        (safe.filling.fills p.number i ws was).3 j w g;
    full = λ i h. let r = k.table.states i h in (
      λ e. let o = safe.records.kept i (flag_one (k.core.slots i).full (sym r.full ∙ e)) in
          let few : o.0 < seats_at_most = (let l = o.2 in let c = k.counts.1 in omega arith) in
          let v = fit_back (k.seat o.0).records (k.core.seats o.0).records o.1
          (k.fits o.0 few).records o.3 in (
            k.seat o.0,
            v.0,
            stands o.0 few,
            v.1,
            v.2.slot ∙ o.4,
            v.2.generation ∙
                (o.5 ∙ sym r.generation),
          ),
      λ w. let b = behind w.0 w.1 w.2 w.3 in let here : b.0.slot ≡ i = sym b.2.slot ∙ w.4 in
          let d = (safe.records.dated w.0.number b.0 b.1).1 (sym b.2.generation ∙
          (w.5 ∙ (r.generation ∙ ap (λ (z : ℕ). (k.core.slots z).generation) (sym here))))
          in r.full ∙ ap flag (ap (λ (z : ℕ). (k.core.slots z).full) (sym here) ∙ d.0),
    );
    words = λ i j w p r h l a c e g f. let b = behind p r a c in let here : b.0.slot ≡ i =
        sym b.2.slot ∙ e in
        let d = (safe.records.dated p.number b.0 b.1).1 (sym b.2.generation ∙
        (g ∙ (same_generation i h ∙ ap (λ (z : ℕ). (k.core.slots z).generation) (sym here))))
        in
        k.table.contents i j h l ∙ (ap (λ (z : ℕ). get_or (k.core.slots z).content j 0) (sym here)
        ∙ (ap (λ (z : List ℕ). get_or z j 0) d.1 ∙ b.2.words j w f));
    dated = λ p r h a c. let b = behind p r a c in let d = (safe.records.dated p.number b.0 b.1).0
        in let gen = b.2.generation in
        let same : (k.core.slots b.0.slot).generation ≡ get_or s.words
        (slot_words * r.slot) 0 / 2 ^ generation_bit = search (same_generation, rules) in omega arith;
    pinned = λ i g p h a e. let w = shown_pinned (k.core.seats p.number).state i g
        (sym e ∙ (stood p a).2.state) in let o = safe.holding.pinned p.number i g w.0 w.1 in
        let r = k.table.states i h in (r.full ∙ ap flag o.0, r.generation ∙ o.1);
    meet = λ p q a b r r' c c' slot gen j x y e e'. let f = behind p r a c in let g =
        behind q r' b c' in
        let same = safe.records.agree p.number q.number f.0 g.0 f.1 g.1
        (sym f.2.slot ∙ (slot ∙ g.2.slot)) (sym f.2.generation ∙ (gen ∙ g.2.generation)) in
        sym (f.2.words j x e) ∙ (ap (λ (l : List ℕ). get_or l j 0) same ∙ g.2.words j y e');
    whole = λ p r a c. let o = stood p a in let w = k.whole.whole p.number r o.0
        (subst (λ (z : SeatView). Contains z.records r) (sym o.1) c) in
        (k.seat w.0, w.1, stands w.0 w.2, w.3, w.4, w.5, w.6);
    text = λ p r a c. let o = stood p a in k.whole.text p.number r o.0
        (subst (λ (z : SeatView). Contains z.records r) (sym o.1) c);
    done = λ i h. let r = k.table.states i h in (
      λ e. let o = k.marked.marks i (flag_one (k.core.slots i).done (sym r.done ∙ e)) in (
        k.seat o.0,
        stands o.0 o.1,
        subst (λ (g : ℕ). HasMark (k.seat o.0).dones i g)
            (sym r.generation) o.2,
      ),
      λ w. let o = stood w.0 w.1 in let m = k.marked.marked w.0.number i
          (get_or s.words (slot_words * i) 0 / 2 ^ generation_bit) o.0
          (subst (λ (z : SeatView). HasMark z.dones i
          (get_or s.words (slot_words * i) 0 / 2 ^ generation_bit)) (sym o.1) w.2) in r.done
          ∙ ap flag (m.1 r.generation),
    );
    none_later = λ i g p h a c. let o = stood p a in let m = (k.marked.marked p.number i g o.0
        (subst (λ (z : SeatView). HasMark z.dones i g) (sym o.1) c)).0 in let same =
        same_generation i h in omega arith;
    freed = λ i g h. let same = same_generation i h in (
      λ e. let o = k.marked.freed i g (omega arith) in (k.seat o.0, stands o.0 o.1, o.2),
      λ w. let o = stood w.0 w.1 in let m = k.marked.older w.0.number i g o.0
          (subst (λ (z : SeatView). HasMark z.frees i g) (sym o.1) w.2) in omega arith,
    );
  }

-- so it says that
pub rule_says : RuleSays
rule_says n s k = let d = safe_means k.core (safe_of n s k) in (says n s k, d.0, d.1, d.2)
