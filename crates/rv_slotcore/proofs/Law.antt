-- Each step keeps the invariant.
use Rattle.rv_slotcore.proofs.Common.{◌≡◌, ◌≢◌, ◌⊎◌, ℕ, ◌<◌, ◌≤◌, Bool, true, false, List, ◌∷◌, length, get_or}
use Rattle.rv_slotcore.proofs.Common.{set, Option, Some, None, Contains, sym, refl, ap, ◌∙◌, subst, arith, ⊎_elim}
use Rattle.rv_slotcore.proofs.Common.{true≢false, eq-eqb, ne_eqb, length-set, cases_Bool, common_steps, rules}
use Rattle.rv_slotcore.proofs.Common.{dite, Slot, Idle, Filling, Pinned, Stray, Seat, put_at, all_put, put_words}
use Rattle.rv_slotcore.proofs.Common.{no_words, in_state, recorded, claimed_slot, written_slot, full_slot}
use Rattle.rv_slotcore.proofs.Common.{pinned_slot}
use Rattle.rv_slotcore.specs.Machine.{Record}
use Rattle.rv_slotcore.proofs.Updates.{put_cases, put_here}
use Rattle.rv_slotcore.proofs.Invariant.{on, PutIn, Fills, Holds, Recorded, FlagsOf, PinsOf, FillsOf, HoldsOf}
use Rattle.rv_slotcore.proofs.Invariant.{RecordedOf, SafeOf, in_head, in_tail, none_put, whole_is, same_map}

module _ (m : ℕ) (slots : ℕ → Slot) (seats : ℕ → Seat) (safe : SafeOf m slots seats) (s i : ℕ)
    (small : s < m) where
  abbrev x : Slot
  x = slots i

  abbrev q : Seat
  q = seats s

  -- ---- a group is kept where what it reads is the same
  flags_same : (y : Slot) → y.claimed ≡ x.claimed → y.full ≡ x.full → y.done ≡ x.done →
      (r : ℕ → Seat) → FlagsOf m (put_at slots i y) r
  flags_same y a b d r = grind (arith, common_steps)

  records_same : (y : Slot) (r : Seat) → y.full ≡ x.full → y.generation ≡ x.generation → y.content
      ≡ x.content → r.records ≡ q.records → RecordedOf m (put_at slots i y) (put_at seats s r)
  records_same y r a b d e = subst
      (λ (z : (ℕ → Bool) × (ℕ → ℕ) × (ℕ → List ℕ) × (ℕ → List Record)). Recorded m z.0 z.1 z.2 z.3)
      (λ k. (
        same_map (λ z. z.full) slots i y a k,
        same_map (λ z. z.generation) slots i y b k,
        same_map (λ z. z.content) slots i y d k,
        same_map (λ z. z.records) seats s r e k,
      ))
      safe.records

  -- a seat gets a state that pins nothing, from one that pins nothing
  pins_same : (y : Slot) (r : Seat) → y.pins ≡ x.pins → ((k : ℕ) → on r.state k ≡ on q.state k)
      → PinsOf m (put_at slots i y) (put_at seats s r)
  pins_same y r a b = grind (arith, common_steps)

  -- a slot keeps what pins read of it; a seat gets a state that is not pinned
  holds_same : (y : Slot) (r : Seat) →
      (x.full ≡ true → (y.full ≡ true) × (y.generation ≡ x.generation) × (y.content ≡ x.content)) →
      ((k g : ℕ) (w : List ℕ) → r.state ≢ Pinned k g w) → HoldsOf m (put_at slots i y)
      (put_at seats s r)
  holds_same y r a b = record {
    pinned = λ t k g w. put_cases (λ z. z.state ≡ Pinned k g w → ((put_at slots i y k).full ≡ true)
        × ((put_at slots i y k).generation ≡ g) × ((put_at slots i y k).content ≡ w) ×
        (rest : List Record) × (z.records ≡ record { slot = k; generation = g; content = w }
        ∷ rest)) seats s t r (λ _ e. absurd (b k g w e))
        (λ _ e. let old = safe.holding.pinned t k g w e in put_cases
        (λ z. (z.full ≡ true) × (z.generation ≡ g) × (z.content ≡ w) × (rest : List Record) ×
        ((seats t).records ≡ record { slot = k; generation = g; content = w } ∷ rest)) slots i k y
        (λ d. let was = a (subst (λ (u : ℕ). (slots u).full ≡ true) d old.0) in (
          was.0,
          was.1 ∙ (ap (λ (u : ℕ). (slots u).generation) (sym d) ∙ old.1),
          was.2 ∙
              (ap (λ (u : ℕ). (slots u).content) (sym d) ∙ old.2),
          old.3,
          old.4,
        ))
        (λ _. old));
  }

  -- ---- claim
  module _ (idle : q.state ≡ Idle) (free : x.claimed ≡ false) where
    not_full : x.full ≡ false
    not_full = ⊎_elim (λ h. absurd (true≢false (sym (safe.flags.order i h) ∙ free))) (λ h. h)
        (cases_Bool x.full)

    -- a claim keeps the invariant
    pub claim_keeps : SafeOf m (put_at slots i (claimed_slot x))
        (put_at seats s (in_state q (Filling i no_words)))
    claim_keeps = let y : Slot = claimed_slot x in let r : Seat = in_state q (Filling i no_words)
        in
        record {
          flags = grind (arith, common_steps);
          pins = pins_same y r refl (λ k. sym (ap (λ z. on z k) idle));
          filling = record {
            fills = λ t k p. put_cases
                (λ z. z.state ≡ Filling k p → ((put_at slots i y k).claimed ≡ true) ×
                ((put_at slots i y k).full ≡ false) × (length p ≡ 58) × PutIn p
                (put_at slots i y k).content) seats s t r
                (λ _ e. let k_is : k ≡ i = cc in let p_is : no_words ≡ p = cc in
                put_cases (λ z. (z.claimed ≡ true) × (z.full ≡ false) × (length p ≡ 58)
                × PutIn p z.content) slots i k y
                (λ _. (
                  refl,
                  not_full,
                  ap length (sym p_is),
                  λ j w h. absurd
                      (none_put 58 j w (ap (λ (l : List (Option ℕ)). get_or l j None) p_is ∙ h)),
                ))
                (λ ne. absurd (ne k_is))) (λ _ e. let old = safe.filling.fills t k p e in
                put_cases (λ z. (z.claimed ≡ true) × (z.full ≡ false) × (length p ≡ 58)
                × PutIn p z.content) slots i k y (λ d. absurd
                (true≢false (sym old.0 ∙ (ap (λ (u : ℕ). (slots u).claimed) d ∙ free))))
                (λ _. old));
            one = λ t u k p p'. put_cases (λ z. z.state ≡ Filling k p → (put_at seats s r u).state
                ≡ Filling k p' → t ≡ u) seats s t r
                (λ d e. put_cases (λ z. z.state ≡ Filling k p' → t ≡ u) seats s u r
                (λ d' _. d ∙ sym d') (λ _ e'. let k_is : k ≡ i = cc in absurd (true≢false
                (sym (safe.filling.fills u k p' e').0 ∙
                (ap (λ (v : ℕ). (slots v).claimed) k_is ∙ free)))))
                (λ _ e. put_cases (λ z. z.state ≡ Filling k p' → t ≡ u) seats s u r
                (λ _ e'. let k_is : k ≡ i = cc in absurd (true≢false
                (sym (safe.filling.fills t k p e).0 ∙
                (ap (λ (v : ℕ). (slots v).claimed) k_is ∙ free))))
                (λ _ e'. safe.filling.one t u k p p' e e'));
            filled = λ k. put_cases (λ z. z.claimed ≡ true → z.full ≡ false → (t : ℕ) ×
                (p : List (Option ℕ)) × (t < m) × ((put_at seats s r t).state ≡ Filling k p))
                slots i k y
                (λ d _ _. (
                  s,
                  no_words,
                  small,
                  ap (λ (z : Seat). z.state) (put_here seats s r) ∙ ap
                      (λ (u : ℕ). Filling u no_words) (sym d),
                ))
                (λ _ a b. let old = safe.filling.filled k a b in (
                  old.0,
                  old.1,
                  old.2,
                  put_cases (λ z. z.state ≡ Filling k old.1) seats s old.0 r
                      (λ d. let e : Idle ≡ Filling k old.1 = grind (arith, common_steps) in cc) (λ _. old.3),
                ));
            long = grind (arith, common_steps);
          };
          holding = holds_same y r (λ h. (h, refl, refl)) (λ k g w e. cc);
          records = records_same y r refl refl refl refl;
        }

  -- ---- more groups
  fills_quiet : (y : Slot) (r : Seat) → y.claimed ≡ x.claimed → y.full ≡ x.full → y.content
      ≡ x.content → ((k : ℕ) (p : List (Option ℕ)) → r.state ≢ Filling k p) →
      ((k : ℕ) (p : List (Option ℕ)) → q.state ≢ Filling k p)
      → FillsOf m (put_at slots i y) (put_at seats s r)
  fills_quiet y r a b d never was = let old = safe.filling in
      let seats_only : Fills m (λ k. (slots k).claimed) (λ k. (slots k).full)
      (λ k. (slots k).content) (λ t. (put_at seats s r t).state) = record {
        fills = λ t k p. put_cases (λ z. z.state ≡ Filling k p → ((slots k).claimed ≡ true) ×
            ((slots k).full ≡ false) × (length p ≡ 58) × PutIn p (slots k).content) seats s t r
            (λ _ e. absurd (never k p e)) (λ _. old.fills t k p);
        one = search (put_cases, rules);
        filled = grind (arith, common_steps);
        long = old.long;
      } in
      subst (λ (z : (ℕ → Bool) × (ℕ → Bool) × (ℕ → List ℕ)). Fills m z.0 z.1 z.2
      (λ t. (put_at seats s r t).state))
      (λ k. (
        same_map (λ z. z.claimed) slots i y a k,
        same_map (λ z. z.full) slots i y b k,
        same_map (λ z. z.content) slots i y d k,
      )) seats_only

  holds_with : (y : Slot) (r : Seat) → y.full ≡ x.full → y.generation ≡ x.generation → y.content
      ≡ x.content
      → ((k g : ℕ) (w : List ℕ) → r.state ≡ Pinned k g w → ((slots k).full ≡ true) ×
      ((slots k).generation ≡ g) × ((slots k).content ≡ w) × (rest : List Record) ×
      (r.records ≡ record { slot = k; generation = g; content = w } ∷ rest))
      → HoldsOf m (put_at slots i y) (put_at seats s r)
  holds_with y r a b d own = let seats_only : HoldsOf m slots (put_at seats s r) = record {
    pinned = λ t k g w. put_cases (λ z. z.state ≡ Pinned k g w → ((slots k).full ≡ true) ×
        ((slots k).generation ≡ g) × ((slots k).content ≡ w) × (rest : List Record) ×
        (z.records ≡ record { slot = k; generation = g; content = w } ∷ rest)) seats s t r
        (λ _. own k g w) (λ _. safe.holding.pinned t k g w);
  } in
      subst (λ (z : (ℕ → Bool) × (ℕ → ℕ) × (ℕ → List ℕ)). Holds z.0 z.1 z.2
      (λ t. (put_at seats s r t).state) (λ t. (put_at seats s r t).records))
      (λ k. (
        same_map (λ z. z.full) slots i y a k,
        same_map (λ z. z.generation) slots i y b k,
        same_map (λ z. z.content) slots i y d k,
      )) seats_only

  -- the own bit of s on slot i becomes b
  pins_put : (y : Slot) (r : Seat) (b : Bool) → y.pins ≡ put_at x.pins s b → on r.state i ≡ b →
      ((k : ℕ) → k ≢ i → on r.state k ≡ on q.state k) → PinsOf m (put_at slots i y)
      (put_at seats s r)
  pins_put y r b is own others = grind (arith, common_steps)

  abbrev IsDated : (ℕ → Slot) → Record → Type 0
  IsDated f r = (r.generation ≤ (f r.slot).generation) ×
      (r.generation ≡ (f r.slot).generation → ((f r.slot).full ≡ true) ×
      ((f r.slot).content ≡ r.content))

  -- a record of slot i, of its generation and content, is added
  records_added : (y : Slot) (r : Seat) (w : Record) → r.records ≡ w ∷ q.records → w.slot ≡ i
      → w.generation ≡ x.generation → w.content ≡ x.content → y.full ≡ true → y.generation
      ≡ x.generation → y.content ≡ x.content → RecordedOf m (put_at slots i y) (put_at seats s r)
  records_added y r w more at gen is a b d =
      let still : (z : Record) → IsDated slots z → IsDated (put_at slots i y) z =
      grind (arith, common_steps) in
      let new : IsDated (put_at slots i y) w = grind (arith, common_steps) in
      let origin : (t : ℕ) (z : Record) → Contains (put_at seats s r t).records z → (w ≡ z) ⊎
      ((v : ℕ) × Contains (seats v).records z) = grind (arith, common_steps) in
      let meets : (z : Record) (v : ℕ) → Contains (seats v).records z → w.slot ≡ z.slot
      → w.generation ≡ z.generation → w.content ≡ z.content = λ z v c e g. let same :
      (slots z.slot).generation ≡ x.generation = grind (arith, common_steps) in
      is ∙ (ap (λ (u : ℕ). (slots u).content) (sym at ∙ e) ∙
      ((safe.records.dated v z c).1 (sym g ∙ (gen ∙ sym same))).1) in
      record {
        dated = λ t z c. ⊎_elim (λ e. subst (λ (u : Record). IsDated (put_at slots i y) u) e new)
            (λ old. still z (safe.records.dated old.0 z old.1)) (origin t z c);
        agree = λ t u z z' c c' e g. ⊎_elim
            (λ h. ⊎_elim (λ h'. ap (λ (v : Record). v.content) (sym h ∙ h'))
            (λ old'. ap (λ (v : Record). v.content) (sym h) ∙ meets z' old'.0 old'.1
            (ap (λ (v : Record). v.slot) h ∙ e) (ap (λ (v : Record). v.generation) h ∙ g))
            (origin u z' c')) (λ old. ⊎_elim
            (λ h'. sym (ap (λ (v : Record). v.content) (sym h') ∙ meets z old.0 old.1
            (ap (λ (v : Record). v.slot) h' ∙ sym e)
            (ap (λ (v : Record). v.generation) h' ∙ sym g)))
            (λ old'. safe.records.agree old.0 old'.0 z z' old.1 old'.1 e g) (origin u z' c'))
            (origin t z c);
        kept = λ k. put_cases (λ v. v.full ≡ true → (t : ℕ) × (z : Record) × (t < m) × Contains
            (put_at seats s r t).records z × (z.slot ≡ k) × (z.generation ≡ v.generation)) slots i k
            y
            (λ e _. (
              s,
              w,
              small,
              subst (λ (u : Seat). Contains u.records w)
                  (sym (put_here seats s r)) (subst (λ (l : List Record). Contains l w) (sym more)
                  (in_head w q.records)),
              at ∙ sym e,
              gen ∙ sym b,
            ))
            (λ _ h. let o = safe.records.kept k h in (
              o.0,
              o.1,
              o.2,
              put_cases (λ u. Contains u.records o.1) seats s o.0 r
                  (λ e. subst (λ (l : List Record). Contains l o.1) (sym more)
                  (in_tail w o.1 q.records
                  (subst (λ (u : ℕ). Contains (seats u).records o.1) e o.3)))
                  (λ _. o.3),
              o.4,
              o.5,
            ));
      }

  -- ---- pin
  module _ (idle : q.state ≡ Idle) where
    -- a pin does
    pub pin_keeps : x.full ≡ true → SafeOf m (put_at slots i (pinned_slot x s true)) (put_at seats s
        (recorded q (Pinned i x.generation x.content)
        (record { slot = i; generation = x.generation; content = x.content })))
    pin_keeps full = let y : Slot = pinned_slot x s true in let w : Record =
        record { slot = i; generation = x.generation; content = x.content } in let r : Seat =
        recorded q (Pinned i x.generation x.content) w in record {
          flags = flags_same y refl refl refl (put_at seats s r);
          pins = pins_put y r true refl (eq-eqb i i refl)
              (λ k ne. ne_eqb k i ne ∙ sym (ap (λ z. on z k) idle));
          filling = search (fills_quiet, rules);
          holding = search (holds_with, rules);
          records = records_added y r w refl refl refl refl full refl refl;
        }

    -- a stray pin does
    pub stray_keeps : SafeOf m (put_at slots i (pinned_slot x s true))
        (put_at seats s (in_state q (Stray i)))
    stray_keeps =
        grind (
          arith,
          common_steps,
          flags_same,
          pins_put,
          eq-eqb,
          ne_eqb,
          fills_quiet,
          holds_with,
          records_same,
        )

  -- ---- unpin
  pub unpin_keeps : ((k : ℕ) (p : List (Option ℕ)) → q.state ≢ Filling k p) →
      ((k : ℕ) → k ≢ i → on q.state k ≡ false) → SafeOf m (put_at slots i (pinned_slot x s false))
      (put_at seats s (in_state q Idle))
  unpin_keeps was others =
      grind (arith, common_steps, flags_same, pins_put, fills_quiet, holds_with, records_same)

  -- ---- publish
  pub publish_keeps : (p : List (Option ℕ)) → q.state ≡ Filling i p → all_put p ≡ true
      → SafeOf m (put_at slots i (full_slot x)) (put_at seats s
      (recorded q Idle (record { slot = i; generation = x.generation; content = put_words p })))
  publish_keeps p was all = let y : Slot = full_slot x in let w : Record =
      record { slot = i; generation = x.generation; content = put_words p } in let r : Seat =
      recorded q Idle w in let old = safe.filling.fills s i p was in
      let content : put_words p ≡ x.content = search (whole_is, rules) in record {
        flags = grind (arith, common_steps);
        pins = pins_same y r refl (λ k. sym (ap (λ z. on z k) was));
        filling = record {
          fills = λ t k p'. put_cases
              (λ z. z.state ≡ Filling k p' → ((put_at slots i y k).claimed ≡ true) ×
              ((put_at slots i y k).full ≡ false) × (length p' ≡ 58) × PutIn p'
              (put_at slots i y k).content) seats s t r (λ _ e. absurd (cc))
              (λ ne e. put_cases (λ z. (z.claimed ≡ true) × (z.full ≡ false) × (length p' ≡ 58)
              × PutIn p' z.content) slots i k y (λ d. absurd
              (ne (safe.filling.one t s i p' p (e ∙ ap (λ (u : ℕ). Filling u p') d) was)))
              (λ _. safe.filling.fills t k p' e));
          one = search (put_cases, rules);
          filled = grind (arith, common_steps);
          long = grind (arith, common_steps);
        };
        holding = holds_same y r (λ h. absurd (true≢false (sym h ∙ old.1))) (λ k g v e. cc);
        records = records_added y r w refl refl refl content refl refl refl;
      }

  -- a slot that is not full has no record of its generation
  quiet : (z : Record) → IsDated slots z → x.full ≡ false → (y : Slot) → y.generation ≡ x.generation
      → y.full ≡ x.full → IsDated (put_at slots i y) z
  quiet z old empty y gen same = grind (arith, common_steps)

  unmoved : (r : Seat) → r.records ≡ q.records → (t : ℕ) (z : Record) → Contains
      (put_at seats s r t).records z → Contains (seats t).records z
  unmoved r e t z = grind (arith, common_steps)

  -- ---- put
  pub put_keeps : (p : List (Option ℕ)) (j v : ℕ) → q.state ≡ Filling i p → j < 58 → SafeOf m
      (put_at slots i (written_slot x j v))
      (put_at seats s (in_state q (Filling i (set p j (Some v)))))
  put_keeps p j v was within = let y : Slot = written_slot x j v in let r : Seat = in_state q
      (Filling i (set p j (Some v))) in let old = safe.filling.fills s i p was in let wide =
      safe.filling.long i in let long = old.2 in
      let put_in : PutIn (set p j (Some v)) (set x.content j v) = search (dite, rules) in
      let came : (t k : ℕ) (a : List (Option ℕ)) → (put_at seats s r t).state ≡ Filling k a →
      (b : List (Option ℕ)) × ((seats t).state ≡ Filling k b) = grind (arith, common_steps) in
      record {
        flags = flags_same y refl refl refl (put_at seats s r);
        pins = pins_same y r refl (λ k. sym (ap (λ z. on z k) was));
        filling = record {
          fills = λ t k a. put_cases
              (λ z. z.state ≡ Filling k a → ((put_at slots i y k).claimed ≡ true) ×
              ((put_at slots i y k).full ≡ false) × (length a ≡ 58) × PutIn a
              (put_at slots i y k).content) seats s t r
              (λ _ e. let k_is : k ≡ i = cc in let a_is : set p j (Some v) ≡ a = cc in put_cases
              (λ z. (z.claimed ≡ true) × (z.full ≡ false) × (length a ≡ 58) × PutIn a z.content)
              slots i k y
              (λ _. (
                old.0,
                old.1,
                ap length (sym a_is) ∙ (length-set p j (Some v) ∙ long),
                subst
                    (λ (l : List (Option ℕ)). PutIn l (set x.content j v)) a_is put_in,
              ))
              (λ ne. absurd (ne k_is)))
              (λ ne e. put_cases (λ z. (z.claimed ≡ true) × (z.full ≡ false) × (length a ≡ 58)
              × PutIn a z.content) slots i k y (λ d. absurd
              (ne (safe.filling.one t s i a p (e ∙ ap (λ (u : ℕ). Filling u a) d) was)))
              (λ _. safe.filling.fills t k a e));
          one = search rules;
          filled = λ k. put_cases (λ z. z.claimed ≡ true → z.full ≡ false → (t : ℕ) ×
              (a : List (Option ℕ)) × (t < m) × ((put_at seats s r t).state ≡ Filling k a)) slots i
              k y
              (λ d _ _. (
                s,
                set p j (Some v),
                small,
                ap (λ (z : Seat). z.state) (put_here seats s r)
                    ∙ ap (λ (u : ℕ). Filling u (set p j (Some v))) (sym d),
              ))
              (λ ne a b. let o = safe.filling.filled k a b in (
                o.0,
                o.1,
                o.2,
                put_cases (λ z. z.state ≡ Filling k o.1) seats s o.0 r
                    (λ d. let e : Filling i p ≡ Filling k o.1 = grind (arith, common_steps) in let k_is : k ≡ i = cc in
                    absurd
                    (ne k_is)) (λ _. o.3),
              ));
          long = λ k. put_cases (λ z. length z.content ≡ 58) slots i k y
              (λ _. length-set x.content j v ∙ wide) (λ _. safe.filling.long k);
        };
        holding = holds_same y r (λ h. absurd (true≢false (sym h ∙ old.1))) (λ k g w e. cc);
        records = record {
          dated = λ t z. put_cases (λ u. Contains u.records z → IsDated (put_at slots i y) z) seats
              s t r (λ d c. quiet z (safe.records.dated s z c) old.1 y refl refl)
              (λ _ c. quiet z (safe.records.dated t z c) old.1 y refl refl);
          agree = λ t u z z' c c'. safe.records.agree t u z z' (unmoved r refl t z c)
              (unmoved r refl u z' c');
          kept = λ k. put_cases (λ u. u.full ≡ true → (t : ℕ) × (z : Record) × (t < m) × Contains
              (put_at seats s r t).records z × (z.slot ≡ k) × (z.generation ≡ u.generation)) slots i
              k y (λ _ h. absurd (true≢false (sym h ∙ old.1)))
              (λ _ h. let o = safe.records.kept k h in (
                o.0,
                o.1,
                o.2,
                put_cases (λ u. Contains u.records o.1) seats s o.0 r
                    (λ d. subst (λ (u : ℕ). Contains (seats u).records o.1) d o.3) (λ _. o.3),
                o.4,
                o.5,
              ));
        };
      }
