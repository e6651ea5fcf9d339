-- The carriers that an event is behind, and what depends through them.
use Rattle.rv_event.proofs.Common.{◌≡◌, ℕ, ◌+◌, ◌<◌, List, Contains, Any, ◌↔◌, inl, inr, sym}
use Rattle.rv_event.proofs.Common.{subst, ◌∙◌, arith, refl, common_steps, Behind, DependsOn, IsCarrier, Lists}
use Rattle.rv_event.proofs.Common.{Addr, Between, Branch, ControlDependsOn, Ctrl, DataOf, Dep, Event, IsDependentWrite}
use Rattle.rv_event.proofs.Growing.{Any-contains, Any-from_contains}
use Rattle.rv_rows.specs.Bits.{Has}
use Rattle.rv_event.specs.Carried.{AreCarrying, Carries, DependsBy, IsCarrying, IsDependentWriteBy, IsMarked, IsSound}
use Rattle.rv_event.specs.Carried.{ListsMarked}
use Rattle.rv_event.specs.Relations.{listed, through}
use Rattle.rv_event.specs.declared.event.DepKind.{DepKind}

-- a dependency is its kind and number
same-dep : (d : Dep) (kind : DepKind) (seq : ℕ) → d.kind ≡ kind → d.seq ≡ seq → d ≡ record { kind = kind; seq = seq }
same-dep d kind seq is at = grind (arith, common_steps)

module _ (log : List Event) (a : Event) where
  -- what a is behind is a carrier of its hart
  pub behind-carrier : (c : Event) → Behind log c a → IsCarrier c
  behind-carrier c (listed is l) = is
  behind-carrier c (through is cm l rest) = is

  pub behind-hart : (c : Event) → Behind log c a → c.id.hart ≡ a.id.hart
  behind-hart c (listed is l) = sym l.0.hart
  behind-hart c (through {m = m} is cm l rest) = sym l.0.hart ∙ behind-hart m rest

  carrying : (c : Event) → Contains log c → Behind log c a → IsCarrying log a c.id.seq
  carrying c cc b =
      Any-from_contains (λ x. (x.id.hart ≡ a.id.hart) × (x.id.seq ≡ c.id.seq) × Behind log x a) log c cc
      (behind-hart c b, refl, b)

  -- a number of the set that e lists is that of a carrier that a is behind
  lists-from : (kind : DepKind) (e : Event) (row : List ℕ) → IsSound log a row → e.id.hart ≡ a.id.hart →
      ListsMarked kind e row → (m : Event) × Contains log m × Lists kind e m × Behind log m a
  lists-from kind e row sound hart marked =
      let found = Any-contains (IsMarked kind e row) e.deps marked in
      let d = found.0 in
      let known = found.2 in
      let at = Any-contains (λ x. (x.id.hart ≡ a.id.hart) × (x.id.seq ≡ d.seq) × Behind log x a) log
      (sound d.seq known.3) in
      let m = at.0 in
      let low = known.1 in
      let number = at.2.1 in (
        m,
        at.1,
        (
          record { hart = at.2.0 ∙ sym hart; seq = omega (low, number, arith) },
          subst (λ (x : Dep). Contains e.deps x) (same-dep d kind m.id.seq known.0 (sym number)) found.1,
        ),
        at.2.2,
      )

  -- and the other way round
  marked-from : (kind : DepKind) (e m : Event) (row : List ℕ) → Lists kind e m → IsCarrier m → Has row m.id.seq →
      ListsMarked kind e row
  marked-from kind e m row l is has =
      Any-from_contains (IsMarked kind e row) e.deps (record { kind = kind; seq = m.id.seq }) l.1
      (refl, l.0.seq, is.1, has)

  -- so the set of all such carriers tells the dependencies
  pub depends-carrying : (kind : DepKind) (e : Event) (row : List ℕ) → AreCarrying log a row →
      DependsBy kind e a row ↔ DependsOn log kind e a
  depends-carrying kind e row are = (to, from)
    where
      to : DependsBy kind e a row → DependsOn log kind e a
      to (inl l) = inl l
      to (inr (hart, marked)) =
          let found = lists-from kind e row (λ n. (are n).0) hart marked in
          inr (Any-from_contains (λ m. Lists kind e m × Behind log m a) log found.0 found.1 (found.2, found.3))

      from : DependsOn log kind e a → DependsBy kind e a row
      from (inl l) = inl l
      from (inr any) =
          let found = Any-contains (λ m. Lists kind e m × Behind log m a) log any in
          let m = found.0 in
          let both = found.2 in
          inr (
            sym both.0.0.hart ∙ behind-hart m both.1,
            marked-from kind e m row both.0 (behind-carrier m both.1) ((are m.id.seq).1 (carrying m found.1 both.1)),
          )

  -- ---- marking
  -- what carries a by a sound set is a carrier that it is behind
  pub carries-sound : (c : Event) (row : List ℕ) → IsSound log a row → Contains log c → Carries c a row →
      IsCarrying log a c.id.seq
  carries-sound c row sound cc (is, hart, inl l) = carrying c cc (listed is l)
  carries-sound c row sound cc (is, hart, inr (same, marked)) =
      let found = lists-from DataOf c row sound hart marked in
      carrying c cc (through is found.1 found.2 found.3)

  -- a set that grew carries what it did
  pub carries-still : (c : Event) (old new : List ℕ) → ((n : ℕ) → Has old n → Has new n) → Carries c a old →
      Carries c a new
  carries-still c old new kept (is, hart, inl l) = (is, hart, inl l)
  carries-still c old new kept (is, hart, inr (same, marked)) =
      let found = Any-contains (IsMarked DataOf c old) c.deps marked in
      let known = found.2 in (
        is,
        hart,
        inr (
          same,
          Any-from_contains (IsMarked DataOf c new) c.deps found.0 found.1
              (known.0, known.1, known.2, kept found.0.seq known.3),
        ),
      )

  -- a carrier that a is behind carries it, where the set has those that it lists
  carries-from : (c : Event) (row : List ℕ) → Behind log c a →
      ((m : Event) → Contains log m → m.id.seq < c.id.seq → Behind log m a → Has row m.id.seq) → Carries c a row
  carries-from c row (listed is l) below = (is, behind-hart c (listed is l), inl l)
  carries-from c row (through {m = m} is cm l rest) below = (
    is,
    behind-hart c (through is cm l rest),
    inr (
      behind-hart c (through is cm l rest),
      marked-from DataOf c m row l (behind-carrier m rest) (below m cm l.0.seq rest),
    ),
  )

  module _ (old new : List ℕ) (full : (c : Event) → Contains log c → Carries c a old → Has new c.id.seq) where
    -- a round marks one number more
    pub one-round : (k : ℕ) → ((n : ℕ) → n < k → IsCarrying log a n → Has old n) → (n : ℕ) → n < k + 1 →
        IsCarrying log a n → Has new n
    one-round k before n low any =
        let found = Any-contains (λ c. (c.id.hart ≡ a.id.hart) × (c.id.seq ≡ n) × Behind log c a) log any in
        let c = found.0 in
        let number = found.2.1 in
        subst (λ (m : ℕ). Has new m) number (full c found.1 (carries-from c old found.2.2
        (λ m cm earlier rest. before m.id.seq (omega (earlier, number, low, arith)) (carrying m cm rest))))

    -- a round without a new one has marked all
    complete : ((n : ℕ) → Has new n → Has old n) → (c : Event) → Contains log c → Behind log c a → Has new c.id.seq
    complete same c cc (listed is l) = full c cc (is, behind-hart c (listed is l), inl l)
    complete same c cc (through {m = m} is cm l rest) = full c cc (
      is,
      behind-hart c (through is cm l rest),
      inr (
        behind-hart c (through is cm l rest),
        marked-from DataOf c m old l (behind-carrier m rest)
            (same m.id.seq (complete same m cm rest)),
      ),
    )

    pub all-marked : ((n : ℕ) → Has new n → Has old n) → (n : ℕ) → IsCarrying log a n → Has new n
    all-marked same n any =
        let found = Any-contains (λ c. (c.id.hart ≡ a.id.hart) × (c.id.seq ≡ n) × Behind log c a) log any in
        subst (λ (m : ℕ). Has new m) found.2.1 (complete same found.0 found.1 found.2.2)

  -- the first 4,096 numbers are all
  pub all-numbers : (row : List ℕ) → ((n : ℕ) → n < 4096 → IsCarrying log a n → Has row n) → (n : ℕ) →
      IsCarrying log a n → Has row n
  all-numbers row before n any =
      let found = Any-contains (λ c. (c.id.hart ≡ a.id.hart) × (c.id.seq ≡ n) × Behind log c a) log any in
      let few = (behind-carrier found.0 found.2.2).1 in
      let number = found.2.1 in
      before n (omega (few, number, arith)) any

  -- ---- tests of the events of a log, by the set of all carriers
  Any-map : (P Q : Event → Type 0) → ((m : Event) → P m → Q m) → Any P log → Any Q log
  Any-map P Q map any =
      let f = Any-contains P log any in Any-from_contains Q log f.0 f.1 (map f.0 f.2)

  module _ (b : Event) (row : List ℕ) (are : AreCarrying log a row) where
    to-depends : (kind : DepKind) (e : Event) → DependsBy kind e a row → DependsOn log kind e a
    to-depends kind e = (depends-carrying kind e row are).0

    from-depends : (kind : DepKind) (e : Event) → DependsOn log kind e a → DependsBy kind e a row
    from-depends kind e = (depends-carrying kind e row are).1

    pub control-carrying :
        Any (λ m. Between a m b × (m.op ≡ Branch) × DependsBy Ctrl m a row) log ↔ ControlDependsOn log b a
    control-carrying = (
      Any-map _ _ (λ m p. (p.0, p.1, to-depends Ctrl m p.2)),
      Any-map _ _ (λ m p. (p.0, p.1, from-depends Ctrl m p.2)),
    )

    pub address-carrying :
        Any (λ m. Between a m b × DependsBy Addr m a row) log ↔ Any (λ m. Between a m b × DependsOn log Addr m a) log
    address-carrying = (
      Any-map _ _ (λ m p. (p.0, to-depends Addr m p.1)),
      Any-map _ _ (λ m p. (p.0, from-depends Addr m p.1)),
    )

    pub write-carrying : Any (IsDependentWriteBy a b row) log ↔ Any (IsDependentWrite log a b) log
    write-carrying = (
      Any-map (IsDependentWriteBy a b row) (IsDependentWrite log a b) (λ m p. record {
        between = p.between;
        store = p.store;
        returns = p.returns;
        depends = elim p.depends [
          | inl addr ↦ inl (to-depends Addr m addr)
          | inr value ↦ inr (to-depends DataOf m value)
        ];
      }),
      Any-map (IsDependentWrite log a b) (IsDependentWriteBy a b row) (λ m p. record {
        between = p.between;
        store = p.store;
        returns = p.returns;
        depends = elim p.depends [
          | inl addr ↦ inl (from-depends Addr m addr)
          | inr value ↦ inr (from-depends DataOf m value)
        ];
      }),
    )
