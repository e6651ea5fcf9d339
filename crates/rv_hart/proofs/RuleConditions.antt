-- What the conditions of the rules say of a new event, by what is kept of the old ones.
use Rattle.rv_hart.proofs.Common.{◌≡◌, ℕ, Bool, ◌||◌, ◌&&◌, ◌<◌, ◌↔◌, List, Contains, IsTrue, IsFalse, ◌⊎◌, inl}
use Rattle.rv_hart.proofs.Common.{inr, sym, refl, ap, ◌∙◌, subst, or_cases, or_left, or_right, and_parts}
use Rattle.rv_hart.proofs.Common.{and_from, false≢true, cases_order, same_Some, Contains-push, All-contains}
use Rattle.rv_hart.proofs.Common.{arith, rules, common_steps, Any-contains, Any-from_contains, All-from_contains}
use Rattle.rv_hart.proofs.Common.{reads_atomic_write_out, fenced_out, after_acquire_out, before_release_out}
use Rattle.rv_hart.proofs.Common.{both_rcsc_out, paired_out, address_out, data_of_out, control_out}
use Rattle.rv_hart.proofs.Common.{reads_dependent_write_out, after_dependent_address_out, is_load, is_store}
use Rattle.rv_hart.proofs.Common.{is_memory, is_exclusive, IsLoad, IsStore, IsMemory, Returns, is_annotated}
use Rattle.rv_hart.proofs.Common.{IsAcquire, IsRelease, IsRcsc, Earlier, Between, Paired, fence_orders, Fenced}
use Rattle.rv_hart.proofs.Common.{DependsOn, Condition, reads_atomic_write, fenced, after_acquire, before_release}
use Rattle.rv_hart.proofs.Common.{both_rcsc, paired, address, data_of, control, reads_dependent_write}
use Rattle.rv_hart.proofs.Common.{after_dependent_address, IsDependentWrite, Event, DepKind, Addr, DataOf, Ctrl}
use Rattle.rv_hart.proofs.Common.{Op, Load, Store, Lr, Sc, ScFailed, Amo, Fence, FenceTso, Branch, MemoryModel}
use Rattle.rv_hart.proofs.Common.{Rvwmo, Ztso, Has, has_bit, Hart, followed, IsOwnStore, IsOrderedBy, Adds}
use Rattle.rv_hart.proofs.Common.{HasEvent, RowIs, IsFencedFor, IsControlling, IsAddressing, IsReserving}
use Rattle.rv_hart.proofs.HartFacts.{Known, Fits, same_event, follows_all, earlier_old, old_new}
use Rattle.rv_hart.proofs.Common.{◌≤◌, [], length, append-nil, AreCarriedRows}
use Rattle.rv_event.specs.declared.event.Op.TheVariants.{Carrier}
use Rattle.rv_hart.proofs.CarriedRows.{depends-earlier}
use Rattle.rv_hart.proofs.GrownSets.{depended, depends-new, depends-old, has-map, low-new, low-old}
use Rattle.rv_hart.proofs.DependencyRows.{AddsNamed}

-- ---- rows with more
-- the row has what it had and the events of which this is true
abbrev pub HasMore : (Event → Type 0) → List Event → List ℕ → List ℕ → Type 0
HasMore P events old new = (s : ℕ) → Has new s ↔ (Has old s ⊎ HasEvent P events s)

-- nothing is added
pub more-none : (events : List Event) (row : List ℕ) → HasMore (λ _. ⊥) events row row
more-none events row s = (λ x. inl x, λ x. elim x [ inl y ↦ y | inr n ↦ absurd n.holds ])

-- all of another row
pub more-all : (P : Event → Type 0) (events : List Event) (row other row' : List ℕ) → RowIs other P events →
    ((s : ℕ) → has_bit row' s ≡ (has_bit row s || has_bit other s)) → HasMore P events row row'
more-all P events row other row' others more s = grind (arith, common_steps)

-- one after the other
pub more-both : (P Q : Event → Type 0) (events : List Event) (row row' row'' : List ℕ) →
    HasMore P events row row' → HasMore Q events row' row'' → HasMore (λ a. P a ⊎ Q a) events row row''
more-both P Q events row row' row'' first second s = (to, from)
  where
    to : Has row'' s → Has row s ⊎ HasEvent (λ a. P a ⊎ Q a) events s
    to x = elim ((second s).0 x) [
      | inl y ↦ elim ((first s).0 y) [
        | inl z ↦ inl z
        | inr z ↦ inr (has-map P (λ a. P a ⊎ Q a) events events s (λ a c p. (c, inl p)) z)
      ]
      | inr y ↦ inr (has-map Q (λ a. P a ⊎ Q a) events events s (λ a c q. (c, inr q)) y)
    ]

    from : Has row s ⊎ HasEvent (λ a. P a ⊎ Q a) events s → Has row'' s
    from (inl y) = (second s).1 (inl ((first s).1 (inl y)))
    from (inr x) = elim x.holds [
      | inl p ↦ (second s).1 (inl ((first s).1 (inr (record { a = x.a; of_list = x.of_list; at = x.at; holds = p }))))
      | inr q ↦ (second s).1 (inr (record { a = x.a; of_list = x.of_list; at = x.at; holds = q }))
    ]

-- what dependencies name
pub more-named : {h : Hart} → Known h → (x : Event) → x.id.hart ≡ h.number → x.id.seq ≤ length h.events →
    ((d : _) → Contains x.deps d → d.seq < x.id.seq) → (kind : DepKind) (loads stores row row' : List ℕ)
    (carried : List (List ℕ)) → RowIs loads IsLoad h.events → RowIs stores IsStore h.events →
    AreCarriedRows h.events carried → AddsNamed kind loads stores carried x.deps row row' →
    HasMore (λ a. IsMemory a × DependsOn h.events kind x a) h.events row row'
more-named {h} known x hart low below kind loads stores row row' carried loads_are stores_are carried_are more s =
    let named = depended known x hart low below kind loads stores carried loads_are stores_are carried_are s in (
      λ y. elim ((more s).0 y) [ inl old ↦ inl old | inr new ↦ inr (named.0 new) ],
      λ y. elim y [ inl old ↦ (more s).1 (inl old) | inr new ↦ (more s).1 (inr (named.1 new)) ],
    )

-- ---- annotations are of memory operations
load-memory : (a : Event) → IsLoad a → IsMemory a
load-memory a l = or_left (is_load a.op) (is_store a.op) l

store-memory : (a : Event) → IsStore a → IsMemory a
store-memory a w = or_right (is_load a.op) (is_store a.op) w

annotated-memory : (op : Op) (b : Bool) → IsTrue (is_annotated op && b) → IsTrue (is_memory op)
annotated-memory Lr b t = refl
annotated-memory Sc b t = refl
annotated-memory Amo b t = refl
annotated-memory Load b t = absurd (false≢true t)
annotated-memory Store b t = absurd (false≢true t)
annotated-memory ScFailed b t = absurd (false≢true t)
annotated-memory Carrier b t = absurd (false≢true t)
annotated-memory (Fence p q) b t = absurd (false≢true t)
annotated-memory FenceTso b t = absurd (false≢true t)
annotated-memory Branch b t = absurd (false≢true t)

acquire-memory : (model : MemoryModel) (a : Event) → IsAcquire model a → IsMemory a
acquire-memory Rvwmo a h = annotated-memory a.op a.acquire h
acquire-memory Ztso a h = elim (or_cases (is_load a.op) (is_annotated a.op && a.acquire) h)
    [ inl l ↦ load-memory a l | inr t ↦ annotated-memory a.op a.acquire t ]

rcsc-memory : (model : MemoryModel) (a : Event) → IsRcsc model a → IsMemory a
rcsc-memory model a h = grind (arith, common_steps, annotated-memory, or_cases, false≢true)

fence-memory : (f a op : Op) → IsTrue (fence_orders f a op) → IsTrue (is_memory a)
fence-memory f a op h = grind (arith, common_steps)

-- ---- what a fence orders before an operation it orders before a load or a store that the operation is
orders_cases : (f a b : Op) → IsTrue (fence_orders f a b) → (IsTrue (is_load b) × IsTrue (fence_orders f a Load)) ⊎
    (IsTrue (is_store b) × IsTrue (fence_orders f a Store))
orders_cases f a b h = grind (arith, common_steps, and_parts, and_from, false≢true, or_cases)

orders_load : (f a b : Op) → IsTrue (is_load b) → IsTrue (fence_orders f a Load) → IsTrue (fence_orders f a b)
orders_load f a b h l = grind (arith, common_steps, and_parts, and_from, false≢true, or_left)

orders_store : (f a b : Op) → IsTrue (is_store b) → IsTrue (fence_orders f a Store) → IsTrue (fence_orders f a b)
orders_store f a b h l = grind (arith, common_steps, and_parts, and_from, false≢true, or_right)

-- ---- each rule
module _ {h : Hart} {e : Event} (f : Fits h e) (memory : IsMemory e) where
  abbrev new : List Event
  new = followed h e

  -- the condition of a rule holds of a memory operation
  abbrev IsUnder : ℕ → Event → Type 0
  IsUnder k a = IsMemory a × Condition h.model new a e k

  -- an event of which the condition holds is ordered
  pub ordered : (k : ℕ) (a : Event) → Contains h.events a → IsUnder k a → IsOrderedBy h e k a.id.seq
  ordered k a ca c = search (old_new, Contains-push, follows_all)

  -- a row that has more by the condition has more by the rule
  pub adds : (k : ℕ) (P : Event → Type 0) (row row' : List ℕ) → HasMore P h.events row row' →
      ((a : Event) → Contains h.events a → P a ↔ IsUnder k a) → Adds h e k row row'
  adds k P row row' more says s = (to, from)
    where
      to : Has row' s → Has row s ⊎ IsOrderedBy h e k s
      to x = elim ((more s).0 x) [
        | inl y ↦ inl y
        | inr y ↦ (let o = ordered k y.a y.of_list ((says y.a y.of_list).0 y.holds) in inr
            (record { a = o.a; of_hart = o.of_hart; at = o.at ∙ y.at; rule = o.rule }))
      ]

      from : Has row s ⊎ IsOrderedBy h e k s → Has row' s
      from (inl y) = (more s).1 (inl y)
      from (inr o) = search rules

  -- ---- rule 2
  -- an event that stands before the new one is an old one
  old : (m : Event) → Contains new m → Earlier m e → Contains h.events m
  old m c earlier = earlier_old f m c earlier

  between : (a m : Event) → Contains h.events m → Earlier a m → Between a m e
  between a m c earlier = record { after = earlier; before = follows_all f m c }

  -- ---- rule 4
  pub fenced-is : (a : Event) → Contains h.events a →
      ((IsLoad e × IsFencedFor Load h.events a) ⊎ (IsStore e × IsFencedFor Store h.events a)) ↔ IsUnder 4 a
  fenced-is a ca = (to, from)
    where
      found : (op : Op) → ((g : Op) → IsTrue (fence_orders g a.op op) → IsTrue (fence_orders g a.op e.op)) →
          IsFencedFor op h.events a → IsUnder 4 a
      found op turn x =
          let y = Any-contains (λ g. Earlier a g × IsTrue (fence_orders g.op a.op op)) h.events x in (
            fence-memory y.0.op a.op op y.2.1,
            fenced (Any-from_contains (λ g. Between a g e × IsTrue (fence_orders g.op a.op e.op)) new y.0
                (old_new h e y.0 y.1) (between a y.0 y.1 y.2.0, turn y.0.op y.2.1)),
          )

      to : (IsLoad e × IsFencedFor Load h.events a) ⊎ (IsStore e × IsFencedFor Store h.events a) → IsUnder 4 a
      to (inl x) = found Load (λ g t. orders_load g a.op e.op x.0 t) x.1
      to (inr x) = found Store (λ g t. orders_store g a.op e.op x.0 t) x.1

      from_fence : Fenced new a e → (IsLoad e × IsFencedFor Load h.events a) ⊎
          (IsStore e × IsFencedFor Store h.events a)
      from_fence x =
          let y = Any-contains (λ g. Between a g e × IsTrue (fence_orders g.op a.op e.op)) new x in
          let c = old y.0 y.1 y.2.0.before in
          elim (orders_cases y.0.op a.op e.op y.2.1) [
            | inl l ↦ inl (
              l.0,
              Any-from_contains (λ g. Earlier a g × IsTrue (fence_orders g.op a.op Load))
                  h.events y.0 c (y.2.0.after, l.1),
            )
            | inr w ↦ inr (
              w.0,
              Any-from_contains (λ g. Earlier a g × IsTrue (fence_orders g.op a.op Store)) h.events
                  y.0 c (y.2.0.after, w.1),
            )
          ]

      from : IsUnder 4 a → (IsLoad e × IsFencedFor Load h.events a) ⊎ (IsStore e × IsFencedFor Store h.events a)
      from x = from_fence (fenced_out h.model new a e x.1)

  -- ---- rule 5
  pub acquire-is : (a : Event) → Contains h.events a → IsAcquire h.model a ↔ IsUnder 5 a
  acquire-is a ca = (λ t. (acquire-memory h.model a t, after_acquire t), λ x. after_acquire_out h.model new a e x.1)

  -- ---- rule 6
  pub release-is : (a : Event) → Contains h.events a →
      ((IsRelease h.model e × IsLoad a) ⊎ (IsRelease h.model e × IsStore a)) ↔ IsUnder 6 a
  release-is a ca = (to, from)
    where
      to : (IsRelease h.model e × IsLoad a) ⊎ (IsRelease h.model e × IsStore a) → IsUnder 6 a
      to (inl x) = (load-memory a x.1, before_release x.0)
      to (inr x) = (store-memory a x.1, before_release x.0)

      from : IsUnder 6 a → (IsRelease h.model e × IsLoad a) ⊎ (IsRelease h.model e × IsStore a)
      from x = grind (arith, common_steps, before_release_out, or_cases)

  -- ---- rule 7
  pub rcsc-is : (a : Event) → Contains h.events a → (IsRcsc h.model e × IsRcsc h.model a) ↔ IsUnder 7 a
  rcsc-is a ca = (
    λ t. (rcsc-memory h.model a t.1, both_rcsc t.1 t.0),
    λ x. (let r = both_rcsc_out h.model new a e x.1 in (r.1, r.0)),
  )

  -- ---- rules 9 and 10
  pub address-is : (a : Event) → Contains h.events a → (IsMemory a × DependsOn h.events Addr e a) ↔ IsUnder 9 a
  address-is a ca = (
    λ x. (x.0, address (depends-new f Addr e a x.1)),
    λ x. (x.0, depends-old f Addr e a (low-new f) (address_out h.model new a e x.1)),
  )

  -- rule 10
  pub data-is : (a : Event) → Contains h.events a → (IsMemory a × DependsOn h.events DataOf e a) ↔ IsUnder 10 a
  data-is a ca = (
    λ x. (x.0, data_of (depends-new f DataOf e a x.1)),
    λ x. (x.0, depends-old f DataOf e a (low-new f) (data_of_out h.model new a e x.1)),
  )

  -- what an event depends on is earlier
  depended-earlier : (kind : DepKind) (m a : Event) → Contains h.events m → Contains h.events a →
      DependsOn h.events kind m a → Earlier a m
  depended-earlier kind m a cm ca d = record {
    hart = f.known.own a ca ∙ sym (f.known.own m cm);
    seq = depends-earlier f.known h.events [] (sym (append-nil h.events)) kind m a d;
  }

  -- ---- rule 11
  pub control-is : (a : Event) → Contains h.events a → (IsStore e × IsControlling h.events a) ↔ IsUnder 11 a
  control-is a ca = (to, from)
    where
      to : IsStore e × IsControlling h.events a → IsUnder 11 a
      to x =
          let y = Any-contains (λ m. (m.op ≡ Branch) × DependsOn h.events Ctrl m a) h.events x.1.1 in (
            x.1.0,
            control x.0 (Any-from_contains (λ m. Between a m e × (m.op ≡ Branch) × DependsOn new Ctrl m a) new y.0
                (old_new h e y.0 y.1) (
                  between a y.0 y.1 (depended-earlier Ctrl y.0 a y.1 ca y.2.1),
                  y.2.0,
                  depends-new f Ctrl y.0 a y.2.1,
                )),
          )

      from : IsUnder 11 a → IsStore e × IsControlling h.events a
      from x =
          let r = control_out h.model new a e x.1 in
          let y = Any-contains (λ m. Between a m e × (m.op ≡ Branch) × DependsOn new Ctrl m a) new r.1 in
          let there : Contains h.events y.0 = old y.0 y.1 y.2.0.before in (
            r.0,
            (
              x.0,
              Any-from_contains (λ m. (m.op ≡ Branch) × DependsOn h.events Ctrl m a) h.events y.0 there
                  (y.2.1, depends-old f Ctrl y.0 a (low-old f y.0 there) y.2.2),
            ),
          )

  -- ---- rule 13
  pub dependent_address-is : (a : Event) → Contains h.events a → (IsStore e × IsAddressing h.events a) ↔ IsUnder 13 a
  dependent_address-is a ca = (to, from)
    where
      to : IsStore e × IsAddressing h.events a → IsUnder 13 a
      to x =
          let y = Any-contains (λ m. DependsOn h.events Addr m a) h.events x.1.1 in (
            x.1.0,
            after_dependent_address
                (record {
                  store = x.0;
                  through = Any-from_contains (λ m. Between a m e × DependsOn new Addr m a) new y.0
                      (old_new h e y.0 y.1) (
                        between a y.0 y.1 (depended-earlier Addr y.0 a y.1 ca y.2),
                        depends-new f Addr y.0 a y.2,
                      );
                }),
          )

      from : IsUnder 13 a → IsStore e × IsAddressing h.events a
      from x =
          let r = after_dependent_address_out h.model new a e x.1 in
          let y = Any-contains (λ m. Between a m e × DependsOn new Addr m a) new r.through in
          let there : Contains h.events y.0 = old y.0 y.1 y.2.0.before in (
            r.store,
            (
              x.0,
              Any-from_contains (λ m. DependsOn h.events Addr m a) h.events y.0 there
                  (depends-old f Addr y.0 a (low-old f y.0 there) y.2.1),
            ),
          )

  -- ---- rules 3 and 12
  -- a version has one store
  one_store : (w a : Event) → Contains h.events w → Contains h.events a → IsStore w → IsStore a → Returns e w →
      Returns e a → w ≡ a
  one_store w a cw ca sw sa rw' ra = search (same_Some, rules)

  atomic-store : (a : Event) → (a.op ≡ Amo) ⊎ (a.op ≡ Sc) → IsStore a
  atomic-store a (inl is) = ap is_store is
  atomic-store a (inr is) = ap is_store is

  -- rule 3, where the event returns an own store
  pub atomic-is : (w : Event) → IsOwnStore h e w → (a : Event) → Contains h.events a →
      (((w.op ≡ Amo) ⊎ (w.op ≡ Sc)) × (w ≡ a)) ↔ IsUnder 3 a
  atomic-is w own a ca = (to, from)
    where
      to : ((w.op ≡ Amo) ⊎ (w.op ≡ Sc)) × (w ≡ a) → IsUnder 3 a
      to x = subst (IsUnder 3) x.1 (
        store-memory w own.store,
        reads_atomic_write (record { atomic = x.0; load = own.load; returns = own.returns }),
      )

      from : IsUnder 3 a → ((w.op ≡ Amo) ⊎ (w.op ≡ Sc)) × (w ≡ a)
      from x =
          let r = reads_atomic_write_out h.model new a e x.1 in
          let same : w ≡ a = one_store w a own.of_hart ca own.store (atomic-store a r.atomic) own.returns r.returns in
          (subst (λ (y : Event). (y.op ≡ Amo) ⊎ (y.op ≡ Sc)) (sym same) r.atomic, same)

  -- and where it does not
  pub atomic-none : ((w : Event) → IsOwnStore h e w → ⊥) → (a : Event) → Contains h.events a → ⊥ ↔ IsUnder 3 a
  atomic-none none a ca = (
    λ n. absurd n,
    λ x. (
        let r = reads_atomic_write_out h.model new a e x.1 in
        none a (record { of_hart = ca; store = atomic-store a r.atomic; load = r.load; returns = r.returns })),
  )

  -- rule 12, where the event returns an own store
  pub dependent-is : (w : Event) → IsOwnStore h e w → (a : Event) → Contains h.events a →
      ((IsMemory a × DependsOn h.events Addr w a) ⊎ (IsMemory a × DependsOn h.events DataOf w a)) ↔ IsUnder 12 a
  dependent-is w own a ca = (to, from)
    where
      found : IsMemory a → DependsOn new Addr w a ⊎ DependsOn new DataOf w a → Earlier a w → IsUnder 12 a
      found m d earlier = (
        m,
        reads_dependent_write
            (record {
              load = own.load;
              through = Any-from_contains (IsDependentWrite new a e) new w
                  (old_new h e w own.of_hart) (record {
                    between = between a w own.of_hart earlier;
                    store = own.store;
                    returns = own.returns;
                    depends = d;
                  });
            }),
      )

      to : (IsMemory a × DependsOn h.events Addr w a) ⊎ (IsMemory a × DependsOn h.events DataOf w a) → IsUnder 12 a
      to (inl x) =
          found x.0 (inl (depends-new f Addr w a x.1)) (depended-earlier Addr w a own.of_hart ca x.1)
      to (inr x) =
          found x.0 (inr (depends-new f DataOf w a x.1)) (depended-earlier DataOf w a own.of_hart ca x.1)

      from : IsUnder 12 a → (IsMemory a × DependsOn h.events Addr w a) ⊎ (IsMemory a × DependsOn h.events DataOf w a)
      from x =
          let y = Any-contains (IsDependentWrite new a e) new (reads_dependent_write_out h.model new a e x.1).through in
          let same : y.0 ≡ w = search (one_store, old, between) in
          elim y.2.depends [
            | inl d ↦ inl (
              x.0,
              depends-old f Addr w a (low-old f w own.of_hart)
                  (subst (λ (z : Event). DependsOn new Addr z a) same d),
            )
            | inr d ↦ inr (
              x.0,
              depends-old f DataOf w a (low-old f w own.of_hart)
                  (subst (λ (z : Event). DependsOn new DataOf z a) same d),
            )
          ]

  -- and where it does not
  pub dependent-none : ((w : Event) → IsOwnStore h e w → ⊥) → (a : Event) → Contains h.events a → ⊥ ↔ IsUnder 12 a
  dependent-none none a ca =
      grind (arith, common_steps, reads_dependent_write_out, Any-contains, old, between)

-- ---- rule 8
module _ {h : Hart} {e : Event} (f : Fits h e) where
  -- a reserving LR is paired with an SC
  pub reserving-paired : (a : Event) → Contains h.events a → IsReserving h.events a → e.op ≡ Sc →
      Paired (followed h e) a e
  reserving-paired a ca r sc = record {
    is_lr = r.0;
    is_sc = sc;
    earlier = follows_all f a ca;
    none_between = All-from_contains (λ m. Between a m e → IsFalse (is_exclusive m.op)) (followed h e)
        (λ m c between. All-contains (λ m. Earlier a m → IsFalse (is_exclusive m.op)) h.events m r.1
        (earlier_old f m c between.before) between.after);
  }

  -- and what is paired reserves
  pub paired-reserving : (a : Event) → Paired (followed h e) a e → IsReserving h.events a
  paired-reserving a p = grind (arith, common_steps)

  later-none : (a b : Event) → Contains h.events b → IsReserving h.events a → IsReserving h.events b → Earlier a b → ⊥
  later-none a b cb ra rb earlier = grind (arith, common_steps)

  -- one LR reserves
  pub one_reserving : (a b : Event) → Contains h.events a → Contains h.events b → IsReserving h.events a →
      IsReserving h.events b → a ≡ b
  one_reserving a b ca cb ra rb = elim (cases_order a.id.seq b.id.seq) [
    | inl same ↦ same_event f.known a b ca cb same
    | inr (inl low) ↦ absurd (later-none a b cb ra rb
        (record { hart = f.known.own a ca ∙ sym (f.known.own b cb); seq = low }))
    | inr (inr high) ↦ absurd (later-none b a ca rb ra
        (record { hart = f.known.own b cb ∙ sym (f.known.own a ca); seq = high }))
  ]

  -- rule 8, where an LR is reserved
  pub paired-is : (lr : Event) → Contains h.events lr → IsReserving h.events lr → (a : Event) → Contains h.events a →
      ((e.op ≡ Sc) × (lr ≡ a)) ↔ (IsMemory a × Condition h.model (followed h e) a e 8)
  paired-is lr cl r a ca = (to, from)
    where
      to : (e.op ≡ Sc) × (lr ≡ a) → IsMemory a × Condition h.model (followed h e) a e 8
      to x = subst (λ (y : Event). IsMemory y × Condition h.model (followed h e) y e 8) x.1
          (ap is_memory r.0, paired (reserving-paired lr cl r x.0))

      from : IsMemory a × Condition h.model (followed h e) a e 8 → (e.op ≡ Sc) × (lr ≡ a)
      from x = let p = paired_out h.model (followed h e) a e x.1 in
          (p.is_sc, one_reserving lr a cl ca r (paired-reserving a p))

  -- and where none is
  pub paired-none : ((a : Event) → Contains h.events a → IsReserving h.events a → ⊥) → (a : Event) →
      Contains h.events a → ⊥ ↔ (IsMemory a × Condition h.model (followed h e) a e 8)
  paired-none none a ca = (
    λ n. absurd n,
    λ x. none a ca (paired-reserving a (paired_out h.model (followed h e) a e x.1)),
  )
