-- The rows of a hart's sets with one more event.
use Rattle.rv_hart.proofs.Common.{◌≡◌, ℕ, ◌<◌, Bool, true, false, ◌||◌, ◌&&◌, ◌==◌, ◌↔◌, List, Contains, IsTrue}
use Rattle.rv_hart.proofs.Common.{IsFalse, Some, None, Option, ◌⊎◌, inl, inr, sym, refl, ap, ◌∙◌, arith, subst}
use Rattle.rv_hart.proofs.Common.{eqb-true, eq-eqb, or_cases, or_left, or_right, and_parts, and_from, false≢true}
use Rattle.rv_hart.proofs.Common.{Contains-push_cases, Contains-push, All-contains, common_steps, Any-contains}
use Rattle.rv_hart.proofs.Common.{Any-from_contains, All-from_contains, is_load, is_store, is_exclusive, IsLoad}
use Rattle.rv_hart.proofs.Common.{IsStore, IsMemory, Earlier, fence_orders, DependsOn, Event, DepKind, Addr, Ctrl}
use Rattle.rv_hart.proofs.Common.{Op, Load, Store, Lr, Branch, Has, has_bit, Hart, followed, HasEvent, RowIs}
use Rattle.rv_hart.proofs.Common.{NamesMemory, IsFencedFor, IsControlling, IsAddressing, IsReserving}
use Rattle.rv_hart.proofs.Common.{IsReservation}
use Rattle.rv_hart.proofs.HartFacts.{Known, Fits, follows_all, known_with, old_new, same_event}
use Rattle.rv_hart.proofs.Common.{◌≤◌, [], ◌∷◌, length, Any, AreCarriedRows, Behind, Dep, IsNaming, Lists, RowHas}
use Rattle.rv_hart.proofs.Common.{DataOf, IsCarried, IsCarrier}
use Rattle.rv_hart.proofs.CarriedRows.{behind-depends, behind-earlier, depends-behind, depends-earlier, depends-front}
use Rattle.rv_hart.proofs.CarriedRows.{depends-whole, number-front}
use Rattle.rv_hart.proofs.DependencyRows.{AddsNamed}

-- what is true of an event of the list may be changed at it
pub has-map : (P Q : Event → Type 0) (xs ys : List Event) (s : ℕ) →
    ((a : Event) → Contains xs a → P a → Contains ys a × Q a) → HasEvent P xs s → HasEvent Q ys s
has-map P Q xs ys s f x = let y = f x.a x.of_list x.holds in record { a = x.a; of_list = y.0; at = x.at; holds = y.1 }

module _ {h : Hart} {e : Event} (f : Fits h e) where
  -- a row of what is true of an event by itself: the new event joins it where it passes
  pub row-insert : (P : Event → Type 0) (test : Bool) (row row' : List ℕ) → IsTrue test ↔ P e → RowIs row P h.events →
      ((s : ℕ) → has_bit row' s ≡ (has_bit row s || (test && (e.id.seq == s)))) → RowIs row' P (followed h e)
  row-insert P test row row' decides is more s = (to, from)
    where
      to : Has row' s → HasEvent P (followed h e) s
      to x = elim (or_cases (has_bit row s) (test && (e.id.seq == s)) (sym (more s) ∙ x)) [
        | inl old ↦ has-map P P h.events (followed h e) s (λ a c p. (old_new h e a c, p)) ((is s).0 old)
        | inr new ↦ (let parts = and_parts test (e.id.seq == s) new in
            record {
              a = e;
              of_list = Contains-push h.events e;
              at = eqb-true e.id.seq s parts.1;
              holds = decides.0 parts.0;
            })
      ]

      from : HasEvent P (followed h e) s → Has row' s
      from x = elim (Contains-push_cases h.events e x.a x.of_list) [
        | inl old ↦ (more s ∙ or_left (has_bit row s) (test && (e.id.seq == s))
            ((is s).1 (record { a = x.a; of_list = old; at = x.at; holds = x.holds })))
        | inr new ↦ (more s ∙ or_right (has_bit row s) (test && (e.id.seq == s))
            (and_from test (e.id.seq == s) (decides.1 (subst P (sym new) x.holds))
            (eq-eqb e.id.seq s (ap (λ (y : Event). y.id.seq) new ∙ x.at))))
      ]

  -- a row of old events of which something new is true
  pub row-join : (P Q More : Event → Type 0) (row row' : List ℕ) → RowIs row P h.events →
      ((s : ℕ) → Has row' s ↔ (Has row s ⊎ HasEvent More h.events s)) →
      ((a : Event) → Contains h.events a → Q a ↔ (P a ⊎ More a)) → (Q e → ⊥) → RowIs row' Q (followed h e)
  row-join P Q More row row' is more says never s = (to, from)
    where
      to : Has row' s → HasEvent Q (followed h e) s
      to x = elim ((more s).0 x) [
        | inl old ↦ has-map P Q h.events (followed h e) s (λ a c p. (old_new h e a c, (says a c).1 (inl p)))
            ((is s).0 old)
        | inr new ↦ has-map More Q h.events (followed h e) s (λ a c p. (old_new h e a c, (says a c).1 (inr p))) new
      ]

      from : HasEvent Q (followed h e) s → Has row' s
      from x = elim (Contains-push_cases h.events e x.a x.of_list) [
        | inl old ↦ elim ((says x.a old).0 x.holds) [
          | inl p ↦ (more s).1 (inl ((is s).1 (record { a = x.a; of_list = old; at = x.at; holds = p })))
          | inr p ↦ (more s).1 (inr (record { a = x.a; of_list = old; at = x.at; holds = p }))
        ]
        | inr new ↦ absurd (never (subst Q (sym new) x.holds))
      ]

  irreflexive : (a : Event) → Earlier a a → ⊥
  irreflexive a e = let s = e.seq in omega arith

  none_after : (b : Event) → Contains (followed h e) b → Earlier e b → ⊥
  none_after b c earlier = elim (Contains-push_cases h.events e b c) [
    | inl old ↦ (let l = follows_all f b old in let x = l.seq in let y = earlier.seq in omega arith)
    | inr is ↦ irreflexive e (subst (λ (y : Event). Earlier e y) (sym is) earlier)
  ]

  -- a fence after an old event is an old one, or the new event
  pub fenced-more : (op : Op) (a : Event) → Contains h.events a → IsFencedFor op (followed h e) a ↔
      (IsFencedFor op h.events a ⊎ IsTrue (fence_orders e.op a.op op))
  fenced-more op a ca = (to, from)
    where
      to : IsFencedFor op (followed h e) a → IsFencedFor op h.events a ⊎ IsTrue (fence_orders e.op a.op op)
      to x =
          let y = Any-contains (λ f. Earlier a f × IsTrue (fence_orders f.op a.op op)) (followed h e) x in
          elim (Contains-push_cases h.events e y.0 y.1) [
            | inl old ↦ inl (Any-from_contains (λ f. Earlier a f × IsTrue (fence_orders f.op a.op op))
                h.events y.0 old y.2)
            | inr is ↦ inr (subst (λ (z : Event). IsTrue (fence_orders z.op a.op op)) (sym is) y.2.1)
          ]

      from : IsFencedFor op h.events a ⊎ IsTrue (fence_orders e.op a.op op) → IsFencedFor op (followed h e) a
      from (inl x) = grind (arith, common_steps)
      from (inr x) = Any-from_contains (λ f. Earlier a f × IsTrue (fence_orders f.op a.op op)) (followed h e) e
          (Contains-push h.events e) (follows_all f a ca, x)

  -- no fence orders the new event yet
  pub fenced-never : (op : Op) → IsFencedFor op (followed h e) e → ⊥
  fenced-never op x = search (Any-contains, none_after)

by_kind_none : (x y : Bool) → false ≡ ((x && false) || (y && false))
by_kind_none true true = refl
by_kind_none true false = refl
by_kind_none false true = refl
by_kind_none false false = refl

-- a fence orders by loads and by stores
pub orders_by_kind : (f a op : Op) → fence_orders f a op ≡ ((is_load a && fence_orders f Load op) ||
    (is_store a && fence_orders f Store op))
orders_by_kind f a op = grind (arith, common_steps, by_kind_none)

-- what the loads and the stores say of memory operations
module _ (events : List Event) (loads stores : List ℕ) (loads_are : RowIs loads IsLoad events)
    (stores_are : RowIs stores IsStore events) where
  -- loads and stores together are the memory operations
  pub memory-row : (s : ℕ) → IsTrue (has_bit loads s || has_bit stores s) ↔ HasEvent IsMemory events s
  memory-row s = (to, from)
    where
      to : IsTrue (has_bit loads s || has_bit stores s) → HasEvent IsMemory events s
      to x = elim (or_cases (has_bit loads s) (has_bit stores s) x) [
        | inl l ↦ has-map IsLoad IsMemory events events s (λ a c p. (c, or_left (is_load a.op) (is_store a.op) p))
            ((loads_are s).0 l)
        | inr w ↦ has-map IsStore IsMemory events events s (λ a c p. (c, or_right (is_load a.op) (is_store a.op) p))
            ((stores_are s).0 w)
      ]

      from : HasEvent IsMemory events s → IsTrue (has_bit loads s || has_bit stores s)
      from x = elim (or_cases (is_load x.a.op) (is_store x.a.op) x.holds) [
        | inl l ↦ or_left (has_bit loads s) (has_bit stores s)
            ((loads_are s).1 (record { a = x.a; of_list = x.of_list; at = x.at; holds = l }))
        | inr w ↦ or_right (has_bit loads s) (has_bit stores s)
            ((stores_are s).1 (record { a = x.a; of_list = x.of_list; at = x.at; holds = w }))
      ]

  -- the joins at a fence
  pub fence-joins : (e : Event) (op : Op) (row row' : List ℕ) →
      ((s : ℕ) → has_bit row' s ≡ (has_bit row s || (fence_orders e.op Load op && has_bit loads s)
      || (fence_orders e.op Store op && has_bit stores s))) →
      (s : ℕ) → Has row' s ↔ (Has row s ⊎ HasEvent (λ a. IsTrue (fence_orders e.op a.op op)) events s)
  fence-joins e op row row' both s = (to, from)
    where
      loads_too : Bool
      loads_too = fence_orders e.op Load op && has_bit loads s

      stores_too : Bool
      stores_too = fence_orders e.op Store op && has_bit stores s

      by_load : (a : Event) → IsTrue (fence_orders e.op Load op) → IsLoad a → IsTrue (fence_orders e.op a.op op)
      by_load a t l = grind (arith, common_steps)

      by_store : (a : Event) → IsTrue (fence_orders e.op Store op) → IsStore a → IsTrue (fence_orders e.op a.op op)
      by_store a t w = grind (arith, common_steps)

      at_load : IsTrue loads_too → HasEvent (λ a. IsTrue (fence_orders e.op a.op op)) events s
      at_load x = let p = and_parts (fence_orders e.op Load op) (has_bit loads s) x in
          has-map IsLoad (λ a. IsTrue (fence_orders e.op a.op op)) events events s (λ a c l. (c, by_load a p.0 l))
          ((loads_are s).0 p.1)

      at_store : IsTrue stores_too → HasEvent (λ a. IsTrue (fence_orders e.op a.op op)) events s
      at_store x = let p = and_parts (fence_orders e.op Store op) (has_bit stores s) x in
          has-map IsStore (λ a. IsTrue (fence_orders e.op a.op op)) events events s (λ a c l. (c, by_store a p.0 l))
          ((stores_are s).0 p.1)

      to : Has row' s → Has row s ⊎ HasEvent (λ a. IsTrue (fence_orders e.op a.op op)) events s
      to x = elim (or_cases (has_bit row s || loads_too) stores_too (sym (both s) ∙ x)) [
        | inl y ↦ elim (or_cases (has_bit row s) loads_too y) [ inl z ↦ inl z | inr z ↦ inr (at_load z) ]
        | inr y ↦ inr (at_store y)
      ]

      loaded : IsTrue loads_too → Has row' s
      loaded y = both s ∙ or_left (has_bit row s || loads_too) stores_too (or_right (has_bit row s) loads_too y)

      from : Has row s ⊎ HasEvent (λ a. IsTrue (fence_orders e.op a.op op)) events s → Has row' s
      from (inl y) = both s ∙ or_left (has_bit row s || loads_too) stores_too (or_left (has_bit row s) loads_too y)
      from (inr x) = elim (or_cases (is_load x.a.op && fence_orders e.op Load op)
          (is_store x.a.op && fence_orders e.op Store op) (sym (orders_by_kind e.op x.a.op op) ∙ x.holds)) [
            | inl l ↦ (let p = and_parts (is_load x.a.op) (fence_orders e.op Load op) l in
                loaded (and_from (fence_orders e.op Load op) (has_bit loads s) p.1
                ((loads_are s).1 (record { a = x.a; of_list = x.of_list; at = x.at; holds = p.0 }))))
            | inr w ↦ (let p = and_parts (is_store x.a.op) (fence_orders e.op Store op) w in both s ∙
                or_right (has_bit row s || loads_too) stores_too
                (and_from (fence_orders e.op Store op) (has_bit stores s) p.1
                ((stores_are s).1 (record { a = x.a; of_list = x.of_list; at = x.at; holds = p.0 }))))
          ]

-- what a dependency names is a memory operation on which the event depends
pub depended : {h : Hart} → Known h → (x : Event) → x.id.hart ≡ h.number → x.id.seq ≤ length h.events →
    ((d : _) → Contains x.deps d → d.seq < x.id.seq) → (kind : DepKind) (loads stores : List ℕ)
    (carried : List (List ℕ)) → RowIs loads IsLoad h.events → RowIs stores IsStore h.events →
    AreCarriedRows h.events carried → (s : ℕ) →
    NamesMemory kind x.deps loads stores carried s ↔ HasEvent (λ a. IsMemory a × DependsOn h.events kind x a) h.events s
depended {h} known x hart low below kind loads stores carried loads_are stores_are carried_are s = (to, from)
  where
    -- x lists the event that it names
    lists : (a : Event) (d : Dep) → Contains h.events a → Contains x.deps d → d.kind ≡ kind → d.seq ≡ a.id.seq →
        Lists kind x a
    lists a d ca cd is at = (
      record {
        hart = known.own a ca ∙ sym hart;
        seq = let earlier = below d cd in omega (earlier, at, arith);
      },
      subst (λ (y : Dep). Contains x.deps y) (λ i. record { kind = is i; seq = at i }) cd,
    )

    to : NamesMemory kind x.deps loads stores carried s →
        HasEvent (λ a. IsMemory a × DependsOn h.events kind x a) h.events s
    to n =
        let found = Any-contains (IsNaming kind loads stores carried s) x.deps n in
        let d : Dep = found.0 in
        elim found.2.1 [
          | inl own ↦ (
              let m = (memory-row h.events loads stores loads_are stores_are s).0 own.1 in
              record {
                a = m.a;
                of_list = m.of_list;
                at = m.at;
                holds = (m.holds, inl (lists m.a d m.of_list found.1 found.2.0 (own.0 ∙ sym m.at)));
              })
          | inr behind ↦ (
              let earlier = below d found.1 in
              let y = (carried_are.says d.seq s (omega (earlier, low, arith))).0 behind in
              record {
                a = y.a;
                of_list = y.a_of_list;
                at = y.a_at;
                holds = (
                  y.memory,
                  inr (Any-from_contains (λ m. Lists kind x m × Behind h.events m y.a) h.events y.c y.c_of_list
                      (lists y.c d y.c_of_list found.1 found.2.0 (sym y.c_at), y.behind)),
                );
              })
        ]

    from : HasEvent (λ a. IsMemory a × DependsOn h.events kind x a) h.events s →
        NamesMemory kind x.deps loads stores carried s
    from y = elim y.holds.1 [
      | inl l ↦ Any-from_contains (IsNaming kind loads stores carried s) x.deps
          (record { kind = kind; seq = y.a.id.seq }) l.1 (
            refl,
            inl (
              y.at,
              (memory-row h.events loads stores loads_are stores_are s).1
                  (record { a = y.a; of_list = y.of_list; at = y.at; holds = y.holds.0 }),
            ),
          )
      | inr any ↦ (
          let found = Any-contains (λ m. Lists kind x m × Behind h.events m y.a) h.events any in
          let c : Event = found.0 in
          Any-from_contains (IsNaming kind loads stores carried s) x.deps
          (record { kind = kind; seq = c.id.seq }) found.2.0.1 (
            refl,
            inr ((carried_are.says c.id.seq s (known.below c found.1)).1 (record {
              a = y.a;
              c = c;
              a_of_list = y.of_list;
              c_of_list = found.1;
              a_at = y.at;
              c_at = refl;
              memory = y.holds.0;
              behind = found.2.1;
            })),
          ))
    ]

-- what tells whether it depends on a memory operation
pub depended-on : {h : Hart} → Known h → (x : Event) → x.id.hart ≡ h.number → x.id.seq ≤ length h.events →
    ((d : _) → Contains x.deps d → d.seq < x.id.seq) → (kind : DepKind) (carried : List (List ℕ)) →
    AreCarriedRows h.events carried → (met : Event) → Contains h.events met → IsMemory met →
    (Lists kind x met ⊎ Any (λ d. (d.kind ≡ kind) × RowHas carried d.seq met.id.seq) x.deps) ↔
    DependsOn h.events kind x met
depended-on {h} known x hart low below kind carried are met cm memory = (to, from)
  where
    to : Lists kind x met ⊎ Any (λ d. (d.kind ≡ kind) × RowHas carried d.seq met.id.seq) x.deps →
        DependsOn h.events kind x met
    to (inl l) = inl l
    to (inr any) =
        let found = Any-contains (λ d. (d.kind ≡ kind) × RowHas carried d.seq met.id.seq) x.deps any in
        let d : Dep = found.0 in
        let is = found.2.0 in
        let earlier = below d found.1 in
        let y = (are.says d.seq met.id.seq (omega (earlier, low, arith))).0 found.2.1 in
        let at = y.c_at in
        let same : y.a ≡ met = same_event known y.a met y.a_of_list cm y.a_at in
        inr (Any-from_contains (λ m. Lists kind x m × Behind h.events m met) h.events y.c y.c_of_list (
          (
            record { hart = known.own y.c y.c_of_list ∙ sym hart; seq = omega (earlier, at, arith) },
            subst (λ (z : Dep). Contains x.deps z) (λ i. record { kind = is i; seq = sym at i }) found.1,
          ),
          subst (λ (z : Event). Behind h.events y.c z) same y.behind,
        ))

    from : DependsOn h.events kind x met →
        Lists kind x met ⊎ Any (λ d. (d.kind ≡ kind) × RowHas carried d.seq met.id.seq) x.deps
    from (inl l) = inl l
    from (inr any) =
        let found = Any-contains (λ m. Lists kind x m × Behind h.events m met) h.events any in
        let c : Event = found.0 in
        inr (Any-from_contains (λ d. (d.kind ≡ kind) × RowHas carried d.seq met.id.seq) x.deps
        (record { kind = kind; seq = c.id.seq }) found.2.0.1 (
          refl,
          (are.says c.id.seq met.id.seq (known.below c found.1)).1 (record {
            a = met;
            c = c;
            a_of_list = cm;
            c_of_list = found.1;
            a_at = refl;
            c_at = refl;
            memory = memory;
            behind = found.2.1;
          }),
        ))

-- the event is a branch that depends on a memory operation
abbrev BranchDepends : List Event → Event → Event → Type 0
BranchDepends events e a = IsMemory a × (e.op ≡ Branch) × DependsOn events Ctrl e a

-- the event's address depends on a memory operation
abbrev AddressDepends : List Event → Event → Event → Type 0
AddressDepends events e a = IsMemory a × DependsOn events Addr e a

module _ {h : Hart} {e : Event} (f : Fits h e) where
  -- dependencies of an event of the hart, and of the new one, are on what was before
  pub depends-old : (kind : DepKind) (x a : Event) → x.id.seq ≤ length h.events → DependsOn (followed h e) kind x a →
      DependsOn h.events kind x a
  depends-old kind x a = depends-front (known_with f) h.events (e ∷ []) refl kind x a

  pub depends-new : (kind : DepKind) (x a : Event) → DependsOn h.events kind x a → DependsOn (followed h e) kind x a
  depends-new kind x a = depends-whole (known_with f) h.events (e ∷ []) refl kind x a

  pub low-old : (m : Event) → Contains h.events m → m.id.seq ≤ length h.events
  low-old m cm = let low = f.known.below m cm in omega (low, arith)

  pub low-new : e.id.seq ≤ length h.events
  low-new = let at = f.seq in omega (at, arith)

  -- nothing depends on the new event
  none-depends : (kind : DepKind) (m : Event) → Contains (followed h e) m → DependsOn (followed h e) kind m e → ⊥
  none-depends kind m cm d =
      let low = depends-earlier (known_with f) h.events (e ∷ []) refl kind m e d in
      let at = f.seq in
      elim (Contains-push_cases h.events e m cm) [
        | inl old ↦ (let below = f.known.below m old in absurd (omega (low, at, below, arith)))
        | inr is ↦ absurd (omega (low, ap (λ (y : Event). y.id.seq) is, arith))
      ]

  reserving-settled : (a : Event) → IsReserving (followed h e) a → IsReserving h.events a
  reserving-settled a r = (
    r.0,
    All-from_contains (λ m. Earlier a m → IsFalse (is_exclusive m.op)) h.events
        (λ m c. All-contains (λ m. Earlier a m → IsFalse (is_exclusive m.op)) (followed h e) m r.1 (old_new h e m c)),
  )

  -- an event that is no LR, SC or failed SC leaves the reservation
  pub reservation-kept : is_exclusive e.op ≡ false → (o : Option ℕ) → IsReservation h.events o →
      IsReservation (followed h e) o
  reservation-kept free (Some s) x = has-map (IsReserving h.events) (IsReserving (followed h e)) h.events
      (followed h e) s (λ a c r. (
        old_new h e a c,
        (
          r.0,
          All-from_contains (λ m. Earlier a m → IsFalse (is_exclusive m.op)) (followed h e)
              (λ m cm. elim (Contains-push_cases h.events e m cm) [
                | inl old ↦ All-contains (λ m. Earlier a m → IsFalse (is_exclusive m.op)) h.events m r.1 old
                | inr is ↦ (λ earlier. subst (λ (y : Event). IsFalse (is_exclusive y.op)) is free)
              ]),
        ),
      )) x
  reservation-kept free None none = λ a c r. elim (Contains-push_cases h.events e a c) [
    | inl old ↦ none a old (reserving-settled a r)
    | inr is ↦ (let lr : e.op ≡ Lr = ap (λ (y : Event). y.op) is ∙ r.0 in false≢true (sym free ∙ ap is_exclusive lr))
  ]

  -- an LR is one
  pub reservation-new : e.op ≡ Lr → IsReservation (followed h e) (Some e.id.seq)
  reservation-new lr = grind (arith, common_steps, Contains-push, All-from_contains, none_after)

  -- an SC or a failed SC ends it
  pub reservation-ended : is_exclusive e.op ≡ true → (e.op ≡ Lr → ⊥) → IsReservation (followed h e) None
  reservation-ended exclusive other a c r = elim (Contains-push_cases h.events e a c) [
    | inl old ↦ false≢true (sym (All-contains (λ m. Earlier a m → IsFalse (is_exclusive m.op)) (followed h e) e r.1
        (Contains-push h.events e) (follows_all f a old)) ∙ exclusive)
    | inr is ↦ other (ap (λ (y : Event). y.op) is ∙ r.0)
  ]

  -- the fences of both kinds
  pub fences-absorbed : (op : Op) (loads stores row row' : List ℕ) → RowIs loads IsLoad h.events →
      RowIs stores IsStore h.events → RowIs row (IsFencedFor op h.events) h.events →
      ((s : ℕ) → has_bit row' s ≡ (has_bit row s || (fence_orders e.op Load op && has_bit loads s)
      || (fence_orders e.op Store op && has_bit stores s))) →
      RowIs row' (IsFencedFor op (followed h e)) (followed h e)
  fences-absorbed op loads stores row row' loads_are stores_are is both =
      row-join f (IsFencedFor op h.events) (IsFencedFor op (followed h e))
      (λ a. IsTrue (fence_orders e.op a.op op)) row row' is
      (fence-joins h.events loads stores loads_are stores_are e op row row' both) (fenced-more f op) (fenced-never f op)

  -- what a new branch depends on
  pub controls-absorbed : (loads stores row row' : List ℕ) (carried : List (List ℕ)) → RowIs loads IsLoad h.events →
      RowIs stores IsStore h.events → AreCarriedRows h.events carried → RowIs row (IsControlling h.events) h.events →
      ((s : ℕ) → Has row' s ↔ (Has row s ⊎ ((e.op ≡ Branch) × NamesMemory Ctrl e.deps loads stores carried s))) →
      RowIs row' (IsControlling (followed h e)) (followed h e)
  controls-absorbed loads stores row row' carried loads_are stores_are carried_are is more =
      row-join f (IsControlling h.events) (IsControlling (followed h e))
      (BranchDepends h.events e) row row' is joined says never
    where
      named : (s : ℕ) → NamesMemory Ctrl e.deps loads stores carried s ↔
          HasEvent (λ a. IsMemory a × DependsOn h.events Ctrl e a) h.events s
      named = depended f.known e f.hart low-new f.deps Ctrl loads stores carried loads_are stores_are carried_are

      joined : (s : ℕ) → Has row' s ↔ (Has row s ⊎ HasEvent (BranchDepends h.events e) h.events s)
      joined s = (to, from)
        where
          to : Has row' s → Has row s ⊎ HasEvent (BranchDepends h.events e) h.events s
          to x = elim ((more s).0 x) [
            | inl old ↦ inl old
            | inr new ↦ inr (has-map (λ a. IsMemory a × DependsOn h.events Ctrl e a)
                (BranchDepends h.events e) h.events h.events s
                (λ a c d. (c, (d.0, new.0, d.1))) ((named s).0 new.1))
          ]

          from : Has row s ⊎ HasEvent (BranchDepends h.events e) h.events s → Has row' s
          from (inl old) = (more s).1 (inl old)
          from (inr new) = (more s).1 (inr (
            new.holds.1,
            (named s).1
                (has-map (BranchDepends h.events e) (λ a. IsMemory a × DependsOn h.events Ctrl e a) h.events h.events s
                (λ a c d. (c, (d.0, d.2))) new),
          ))

      says : (a : Event) → Contains h.events a → IsControlling (followed h e) a ↔
          (IsControlling h.events a ⊎ BranchDepends h.events e a)
      says a ca = (to, from)
        where
          to : IsControlling (followed h e) a → IsControlling h.events a ⊎ BranchDepends h.events e a
          to x =
              let y = Any-contains (λ m. (m.op ≡ Branch) × DependsOn (followed h e) Ctrl m a) (followed h e) x.1 in
              elim (Contains-push_cases h.events e y.0 y.1) [
                | inl old ↦ inl (
                  x.0,
                  Any-from_contains (λ m. (m.op ≡ Branch) × DependsOn h.events Ctrl m a)
                      h.events y.0 old (y.2.0, depends-old Ctrl y.0 a (low-old y.0 old) y.2.1),
                )
                | inr new ↦ inr (
                    let z = subst (λ (m : Event). (m.op ≡ Branch) × DependsOn (followed h e) Ctrl m a) (sym new) y.2 in
                    (x.0, z.0, depends-old Ctrl e a low-new z.1))
              ]

          from : IsControlling h.events a ⊎ BranchDepends h.events e a → IsControlling (followed h e) a
          from (inl x) = let y = Any-contains (λ m. (m.op ≡ Branch) × DependsOn h.events Ctrl m a) h.events x.1 in (
            x.0,
            Any-from_contains (λ m. (m.op ≡ Branch) × DependsOn (followed h e) Ctrl m a) (followed h e) y.0
                (old_new h e y.0 y.1) (y.2.0, depends-new Ctrl y.0 a y.2.1),
          )
          from (inr x) = (
            x.0,
            Any-from_contains (λ m. (m.op ≡ Branch) × DependsOn (followed h e) Ctrl m a) (followed h e) e
                (Contains-push h.events e) (x.1, depends-new Ctrl e a x.2),
          )

      never : IsControlling (followed h e) e → ⊥
      never x =
          let y = Any-contains (λ m. (m.op ≡ Branch) × DependsOn (followed h e) Ctrl m e) (followed h e) x.1 in
          none-depends Ctrl y.0 y.1 y.2.1

  -- what a new address depends on
  pub addresses-absorbed : (loads stores row row' : List ℕ) (carried : List (List ℕ)) → RowIs loads IsLoad h.events →
      RowIs stores IsStore h.events → AreCarriedRows h.events carried → RowIs row (IsAddressing h.events) h.events →
      AddsNamed Addr loads stores carried e.deps row row' →
      RowIs row' (IsAddressing (followed h e)) (followed h e)
  addresses-absorbed loads stores row row' carried loads_are stores_are carried_are is more =
      row-join f (IsAddressing h.events) (IsAddressing (followed h e)) (AddressDepends h.events e) row row' is
      joined says never
    where
      named : (s : ℕ) → NamesMemory Addr e.deps loads stores carried s ↔ HasEvent (AddressDepends h.events e) h.events s
      named = depended f.known e f.hart low-new f.deps Addr loads stores carried loads_are stores_are carried_are

      joined : (s : ℕ) → Has row' s ↔ (Has row s ⊎ HasEvent (AddressDepends h.events e) h.events s)
      joined s = (to, from)
        where
          to : Has row' s → Has row s ⊎ HasEvent (AddressDepends h.events e) h.events s
          to x = elim ((more s).0 x) [ inl old ↦ inl old | inr new ↦ inr ((named s).0 new) ]

          from : Has row s ⊎ HasEvent (AddressDepends h.events e) h.events s → Has row' s
          from (inl old) = (more s).1 (inl old)
          from (inr new) = (more s).1 (inr ((named s).1 new))

      says : (a : Event) → Contains h.events a → IsAddressing (followed h e) a ↔
          (IsAddressing h.events a ⊎ AddressDepends h.events e a)
      says a ca = (to, from)
        where
          to : IsAddressing (followed h e) a → IsAddressing h.events a ⊎ AddressDepends h.events e a
          to x =
              let y = Any-contains (λ m. DependsOn (followed h e) Addr m a) (followed h e) x.1 in
              elim (Contains-push_cases h.events e y.0 y.1) [
                | inl old ↦ inl (
                  x.0,
                  Any-from_contains (λ m. DependsOn h.events Addr m a) h.events y.0 old
                      (depends-old Addr y.0 a (low-old y.0 old) y.2),
                )
                | inr new ↦ inr (
                  x.0,
                  depends-old Addr e a low-new
                      (subst (λ (m : Event). DependsOn (followed h e) Addr m a) (sym new) y.2),
                )
              ]

          from : IsAddressing h.events a ⊎ AddressDepends h.events e a → IsAddressing (followed h e) a
          from (inl x) = let y = Any-contains (λ m. DependsOn h.events Addr m a) h.events x.1 in (
            x.0,
            Any-from_contains (λ m. DependsOn (followed h e) Addr m a) (followed h e) y.0 (old_new h e y.0 y.1)
                (depends-new Addr y.0 a y.2),
          )
          from (inr x) = (
            x.0,
            Any-from_contains (λ m. DependsOn (followed h e) Addr m a) (followed h e) e (Contains-push h.events e)
                (depends-new Addr e a x.1),
          )

      never : IsAddressing (followed h e) e → ⊥
      never x =
          let y = Any-contains (λ m. DependsOn (followed h e) Addr m e) (followed h e) x.1 in
          none-depends Addr y.0 y.1 y.2

  -- what is behind a new carrier
  the-new : (s : ℕ) (x : IsCarried (followed h e) s e.id.seq) → x.c ≡ e
  the-new s x = same_event (known_with f) x.c e x.c_of_list (Contains-push h.events e) x.c_at

  pub carrier-absorbed : (loads stores empty row : List ℕ) (carried : List (List ℕ)) → RowIs loads IsLoad h.events →
      RowIs stores IsStore h.events → AreCarriedRows h.events carried → IsCarrier e →
      ((s : ℕ) → has_bit empty s ≡ false) →
      ((s : ℕ) → Has row s ↔ (Has empty s ⊎ NamesMemory DataOf e.deps loads stores carried s)) →
      (s : ℕ) → Has row s ↔ IsCarried (followed h e) s e.id.seq
  carrier-absorbed loads stores empty row carried loads_are stores_are carried_are carrier none says s = (to, from)
    where
      named : NamesMemory DataOf e.deps loads stores carried s ↔
          HasEvent (λ a. IsMemory a × DependsOn h.events DataOf e a) h.events s
      named = depended f.known e f.hart low-new f.deps DataOf loads stores carried loads_are stores_are carried_are s

      to : Has row s → IsCarried (followed h e) s e.id.seq
      to has = elim ((says s).0 has) [
        | inl nothing ↦ absurd (false≢true (sym (none s) ∙ nothing))
        | inr names ↦ (
            let y = named.0 names in
            record {
              a = y.a;
              c = e;
              a_of_list = old_new h e y.a y.of_list;
              c_of_list = Contains-push h.events e;
              a_at = y.at;
              c_at = refl;
              memory = y.holds.0;
              behind = depends-behind (followed h e) e y.a carrier (depends-new DataOf e y.a y.holds.1);
            })
      ]

      from : IsCarried (followed h e) s e.id.seq → Has row s
      from x =
          let behind : Behind (followed h e) e x.a =
          subst (λ (c : Event). Behind (followed h e) c x.a) (the-new s x) x.behind in
          let earlier = behind-earlier (known_with f) h.events (e ∷ []) refl e x.a behind in
          let at = f.seq in
          (says s).1 (inr (named.1 (record {
            a = x.a;
            of_list = number-front (known_with f) h.events (e ∷ []) refl x.a x.a_of_list (omega (earlier, at, arith));
            at = x.a_at;
            holds = (x.memory, depends-old DataOf e x.a low-new (behind-depends (followed h e) e x.a behind).1);
          })))

  -- another event carries nothing
  pub none-carried : (IsCarrier e → ⊥) → (empty : List ℕ) → ((s : ℕ) → has_bit empty s ≡ false) → (s : ℕ) →
      Has empty s ↔ IsCarried (followed h e) s e.id.seq
  none-carried apart empty none s = (
    λ has. absurd (false≢true (sym (none s) ∙ has)),
    λ x. absurd (apart (subst (λ (c : Event). IsCarrier c) (the-new s x)
        (behind-depends (followed h e) x.c x.a x.behind).0)),
  )
