-- Lists of links that grow by those to some accesses, reason by reason.
use Rattle.rv_versions.proofs.Common.{◌≡◌, ◌≢◌, ◌↔◌, ℕ, Option, Some, None, List, [], ◌∷◌, ◌++◌, Contains, inl}
use Rattle.rv_versions.proofs.Common.{inr, refl, sym, ap, ◌∙◌, subst, arith, Contains-append_left}
use Rattle.rv_versions.proofs.Common.{Contains-append_right, Contains-append_cases, Contains-push}
use Rattle.rv_versions.proofs.Common.{Contains-push_cases, common_steps, Link, Reason, Preserved, Coherence}
use Rattle.rv_versions.proofs.Common.{ReadsFrom, FromRead, AtomicIn, AtomicOut, id_of, Event, IsNearestBelow}
use Rattle.rv_versions.proofs.Common.{IsNearestAbove, IsUnparted, link, IsExtended, AreLinked, Covers, stored}
use Rattle.rv_versions.proofs.Common.{returned, held, IsBelow, IsAbove, ComesBefore, ComesAfter, AreTheirs}
use Rattle.rv_versions.proofs.Common.{AreBefore, AreAfter, Accesses, Reservation, Interval, Access}

-- lists extended by links to the accesses that are meant
pub extended_same : (old new : List Link) (reason : Reason) (P Q : Access → Type 0) → ((x : Access) → P x ↔ Q x) →
    IsExtended old new reason P → IsExtended old new reason Q
extended_same old new reason P Q same h = record {
  others = h.others;
  behind = h.behind;
  meant = λ l. (
    λ c. (let m = (h.meant l).0 c in (m.0, (same m.0).0 m.1, m.2)),
    λ p. (h.meant l).1 (p.0, (same p.0).1 p.1, p.2),
  );
}

-- ---- a loop over accesses, of which those that pass are linked

module _ (Pass : Access → Type 0) (reason : Reason) where
  -- an access that was seen, and passes
  abbrev pub Passed : List Access → Access → Type 0
  Passed seen x = Contains seen x × Pass x

  -- before the first access
  pub linked_none : (old : List Link) → IsExtended old old reason (Passed [])
  linked_none old = grind (arith, common_steps)

  -- one link more
  pub linked_more : (old mid new : List Link) (seen : List Access) (x : Access) →
      IsExtended old mid reason (Passed seen) → Pass x → new ≡ mid ++ link (id_of x) reason ∷ [] →
      IsExtended old new reason (Passed (seen ++ x ∷ []))
  linked_more old mid new seen x h pass is = record {
    others = h.others ++ link (id_of x) reason ∷ [];
    behind = grind (arith, common_steps);
    meant = λ l. (to l, from l);
  }
    where
      to : (l : Link) → Contains (h.others ++ link (id_of x) reason ∷ []) l →
          (y : Access) × Passed (seen ++ x ∷ []) y × (l ≡ link (id_of y) reason)
      to l c = elim (Contains-push_cases h.others (link (id_of x) reason) l c) [
        | inl was ↦ (let p = (h.meant l).0 was in
            (p.0, (Contains-append_left seen (x ∷ []) p.0 p.1.0, p.1.1), p.2))
        | inr same ↦ (x, (Contains-push seen x, pass), sym same)
      ]

      from : (l : Link) → (y : Access) × Passed (seen ++ x ∷ []) y × (l ≡ link (id_of y) reason) →
          Contains (h.others ++ link (id_of x) reason ∷ []) l
      from l (y, p, e) = elim (Contains-push_cases seen x y p.0) [
        | inl was ↦ Contains-append_left h.others (link (id_of x) reason ∷ []) l ((h.meant l).1 (y, (was, p.1), e))
        | inr same ↦ subst (Contains (h.others ++ link (id_of x) reason ∷ []))
            (ap (λ (z : Access). link (id_of z) reason) same ∙ sym e)
            (Contains-push h.others (link (id_of x) reason))
      ]

  -- an access that is left aside
  pub linked_past : (old mid : List Link) (seen : List Access) (x : Access) → IsExtended old mid reason (Passed seen) →
      (Pass x → ⊥) → IsExtended old mid reason (Passed (seen ++ x ∷ []))
  linked_past old mid seen x h fails = extended_same old mid reason (Passed seen) (Passed (seen ++ x ∷ []))
      (λ y. (λ p. (Contains-append_left seen (x ∷ []) y p.0, p.1), from y)) h
    where
      from : (y : Access) → Passed (seen ++ x ∷ []) y → Passed seen y
      from y (c, p) = grind (arith, common_steps)

-- ---- five reasons, one after the other

module _ (IsMeant : Reason → Access → Type 0) (none : (k : ℕ) (x : Access) → IsMeant (Preserved k) x → ⊥)
    (l0 l1 l2 l3 l4 l5 : List Link) (c : IsExtended l0 l1 Coherence (IsMeant Coherence))
    (r : IsExtended l1 l2 ReadsFrom (IsMeant ReadsFrom)) (f : IsExtended l2 l3 FromRead (IsMeant FromRead))
    (i : IsExtended l3 l4 AtomicIn (IsMeant AtomicIn)) (o : IsExtended l4 l5 AtomicOut (IsMeant AtomicOut)) where
  -- all that was added
  abbrev pub added : List Link
  added = c.others ++ (r.others ++ (f.others ++ (i.others ++ o.others)))

  -- stands behind the first list
  pub added_behind : l5 ≡ l0 ++ added
  added_behind = grind (arith, common_steps)

  only : (reason : Reason) (x : Access) (l : Link) → IsMeant reason x → l ≡ link (id_of x) reason →
      (y : Access) × IsMeant l.reason y × (l.id ≡ id_of y)
  only reason x l p e =
      (x, subst (λ (q : Reason). IsMeant q x) (ap (λ (k : Link). k.reason) (sym e)) p, ap (λ (k : Link). k.id) e)

  -- and is what is meant
  pub are_linked : AreLinked IsMeant added
  are_linked = record { only = there; each = here }
    where
      there : (l : Link) → Contains added l → (x : Access) × IsMeant l.reason x × (l.id ≡ id_of x)
      there l h = elim (Contains-append_cases c.others _ l h) [
        | inl d ↦ (let m = (c.meant l).0 d in only Coherence m.0 l m.1 m.2)
        | inr h1 ↦ elim (Contains-append_cases r.others _ l h1) [
          | inl d ↦ (let m = (r.meant l).0 d in only ReadsFrom m.0 l m.1 m.2)
          | inr h2 ↦ elim (Contains-append_cases f.others _ l h2) [
            | inl d ↦ (let m = (f.meant l).0 d in only FromRead m.0 l m.1 m.2)
            | inr h3 ↦ elim (Contains-append_cases i.others o.others l h3) [
              | inl d ↦ (let m = (i.meant l).0 d in only AtomicIn m.0 l m.1 m.2)
              | inr d ↦ (let m = (o.meant l).0 d in only AtomicOut m.0 l m.1 m.2)
            ]
          ]
        ]
      ]

      after_c : (l : Link) → Contains (r.others ++ (f.others ++ (i.others ++ o.others))) l → Contains added l
      after_c l h = Contains-append_right c.others _ l h

      after_r : (l : Link) → Contains (f.others ++ (i.others ++ o.others)) l → Contains added l
      after_r l h = after_c l (Contains-append_right r.others _ l h)

      after_f : (l : Link) → Contains (i.others ++ o.others) l → Contains added l
      after_f l h = after_r l (Contains-append_right f.others _ l h)

      here : (reason : Reason) (x : Access) → IsMeant reason x → Contains added (link (id_of x) reason)
      here (Preserved k) x p = absurd (none k x p)
      here Coherence x p = Contains-append_left c.others _ _ ((c.meant _).1 (x, p, refl))
      here ReadsFrom x p = after_c _ (Contains-append_left r.others _ _ ((r.meant _).1 (x, p, refl)))
      here FromRead x p = after_r _ (Contains-append_left f.others _ _ ((f.meant _).1 (x, p, refl)))
      here AtomicIn x p = after_f _ (Contains-append_left i.others _ _ ((i.meant _).1 (x, p, refl)))
      here AtomicOut x p = after_f _ (Contains-append_right i.others _ _ ((o.meant _).1 (x, p, refl)))

-- ---- which accesses are meant

module _ (xs : List Access) (i : Interval) (P : ℕ → Type 0) (is : (v : ℕ) → Covers i v ↔ P v) (x : Access) where
  -- none is left aside
  unhindered : (Contains xs x × Covers i x.version × (None ≢ Some x.hart)) ↔ (Contains xs x × P x.version)
  unhindered = grind (arith, common_steps)

  -- those of a hart are
  foreign : (hart : ℕ) →
      (Contains xs x × Covers i x.version × (Some hart ≢ Some x.hart)) ↔ (Contains xs x × P x.version × (x.hart ≢ hart))
  foreign hart = grind (arith, common_steps)

module _ (log : List Event) (e : Event) (reserved : Option Reservation) (own lr : Accesses)
    (theirs : AreTheirs log e reserved own lr) (l0 l1 l2 l3 l4 l5 : List Link) (nearest read held' unparted : Interval)
    (low bound : ℕ) (s r h : Option ℕ) where
  -- the links into the event
  pub before_of : s ≡ stored e → r ≡ returned e → h ≡ held reserved →
      ((v : ℕ) → Covers nearest v ↔ IsBelow low s v) → ((v : ℕ) → Covers read v ↔ (r ≡ Some v)) →
      ((v : ℕ) → Covers held' v ↔ (h ≡ Some v)) →
      ((v : ℕ) → Covers unparted v ↔ IsBelow bound s v) →
      ((n : ℕ) → s ≡ Some n → IsNearestBelow own.stores n low) →
      ((n : ℕ) → s ≡ Some n → IsUnparted own e.id.hart n bound) →
      IsExtended l0 l1 Coherence (λ x. Contains own.stores x × Covers nearest x.version × (None ≢ Some x.hart)) →
      IsExtended l1 l2 ReadsFrom
      (λ x. Contains own.stores x × Covers read x.version × (Some e.id.hart ≢ Some x.hart)) →
      IsExtended l2 l3 FromRead (λ x. Contains own.loads x × Covers nearest x.version × (None ≢ Some x.hart)) →
      IsExtended l3 l4 AtomicIn (λ x. Contains lr.stores x × Covers held' x.version × (None ≢ Some x.hart)) →
      IsExtended l4 l5 AtomicOut
      (λ x. Contains own.pairs x × Covers unparted x.version × (Some e.id.hart ≢ Some x.hart)) →
      (others : List Link) × (l5 ≡ l0 ++ others) × AreBefore log e reserved others
  before_of p q k n' w' h' u' is_low is_unparted c' r' f' i' o' =
      let Into = ComesBefore own lr e reserved low bound in
      let n = subst (λ (x : Option ℕ). (v : ℕ) → Covers nearest v ↔ IsBelow low x v) p n' in
      let w = subst (λ (x : Option ℕ). (v : ℕ) → Covers read v ↔ (x ≡ Some v)) q w' in
      let a = subst (λ (x : Option ℕ). (v : ℕ) → Covers held' v ↔ (x ≡ Some v)) k h' in
      let u = subst (λ (x : Option ℕ). (v : ℕ) → Covers unparted v ↔ IsBelow bound x v) p u' in
      let c = extended_same l0 l1 Coherence _ (Into Coherence) (unhindered own.stores nearest _ n) c' in
      let b = extended_same l1 l2 ReadsFrom _ (Into ReadsFrom) (λ x. foreign own.stores read _ w x e.id.hart) r' in
      let f = extended_same l2 l3 FromRead _ (Into FromRead) (unhindered own.loads nearest _ n) f' in
      let i = extended_same l3 l4 AtomicIn _ (Into AtomicIn) (unhindered lr.stores held' _ a) i' in
      let o = extended_same l4 l5 AtomicOut _ (Into AtomicOut) (λ x. foreign own.pairs unparted _ u x e.id.hart) o' in (
        added Into (λ k x p. p) l0 l1 l2 l3 l4 l5 c b f i o,
        added_behind Into (λ k x p. p) l0 l1 l2 l3 l4 l5 c b f i o,
        record {
          own = own;
          lr = lr;
          theirs = theirs;
          low = low;
          is_low = λ m x. is_low m (p ∙ x);
          unparted = bound;
          is_unparted = λ m x. is_unparted m (p ∙ x);
          linked = are_linked Into (λ k x p. p) l0 l1 l2 l3 l4 l5 c b f i o;
        },
      )

module _ (log : List Event) (e : Event) (reserved : Option Reservation) (own lr : Accesses)
    (theirs : AreTheirs log e reserved own lr) (l0 l1 l2 l3 l4 l5 : List Link)
    (next above at foreigns : Interval) (end-stored end-returned end-held : ℕ) (s r h : Option ℕ) where
  -- the links out of it
  pub after_of : s ≡ stored e → r ≡ returned e → h ≡ held reserved →
      ((v : ℕ) → Covers next v ↔ IsAbove s end-stored v) →
      ((v : ℕ) → Covers above v ↔ IsAbove r end-returned v) →
      ((v : ℕ) → Covers at v ↔ (s ≡ Some v)) →
      ((v : ℕ) → Covers foreigns v ↔ IsAbove h end-held v) →
      ((n : ℕ) → s ≡ Some n → IsNearestAbove own.stores None n end-stored) →
      ((n : ℕ) → r ≡ Some n → IsNearestAbove own.stores None n end-returned) →
      ((n : ℕ) → h ≡ Some n → IsNearestAbove lr.stores (Some e.id.hart) n end-held) →
      IsExtended l0 l1 Coherence (λ x. Contains own.stores x × Covers next x.version × (None ≢ Some x.hart)) →
      IsExtended l1 l2 ReadsFrom (λ x. Contains own.loads x × Covers at x.version × (None ≢ Some x.hart)) →
      IsExtended l2 l3 FromRead (λ x. Contains own.stores x × Covers above x.version × (None ≢ Some x.hart)) →
      IsExtended l3 l4 AtomicIn (λ x. Contains own.pairs x × Covers at x.version × (None ≢ Some x.hart)) →
      IsExtended l4 l5 AtomicOut
      (λ x. Contains lr.stores x × Covers foreigns x.version × (Some e.id.hart ≢ Some x.hart)) → l0 ≡ [] →
      AreAfter log e reserved l5
  after_of p q k n' a' w' u' is_next is_above is_foreign c' r' f' i' o' none =
      let OutOf = ComesAfter own lr e reserved end-stored end-returned end-held in
      let n = subst (λ (x : Option ℕ). (v : ℕ) → Covers next v ↔ IsAbove x end-stored v) p n' in
      let a = subst (λ (x : Option ℕ). (v : ℕ) → Covers above v ↔ IsAbove x end-returned v) q a' in
      let w = subst (λ (x : Option ℕ). (v : ℕ) → Covers at v ↔ (x ≡ Some v)) p w' in
      let u = subst (λ (x : Option ℕ). (v : ℕ) → Covers foreigns v ↔ IsAbove x end-held v) k u' in
      let c = extended_same l0 l1 Coherence _ (OutOf Coherence) (unhindered own.stores next _ n) c' in
      let d = extended_same l1 l2 ReadsFrom _ (OutOf ReadsFrom) (unhindered own.loads at _ w) r' in
      let f = extended_same l2 l3 FromRead _ (OutOf FromRead) (unhindered own.stores above _ a) f' in
      let i = extended_same l3 l4 AtomicIn _ (OutOf AtomicIn) (unhindered own.pairs at _ w) i' in
      let o = extended_same l4 l5 AtomicOut _ (OutOf AtomicOut) (λ x. foreign lr.stores foreigns _ u x e.id.hart) o' in
      subst (AreAfter log e reserved)
      (sym (added_behind OutOf (λ k x p. p) l0 l1 l2 l3 l4 l5 c d f i o
      ∙ ap (λ (l : List Link). l ++ added OutOf (λ k x p. p) l0 l1 l2 l3 l4 l5 c d f i o) none))
      (record {
        own = own;
        lr = lr;
        theirs = theirs;
        next = end-stored;
        is_next = λ j x. is_next j (p ∙ x);
        above = end-returned;
        is_above = λ j x. is_above j (q ∙ x);
        foreign = end-held;
        is_foreign = λ j x. is_foreign j (k ∙ x);
        linked = are_linked OutOf (λ k x p. p) l0 l1 l2 l3 l4 l5 c d f i o;
      })
