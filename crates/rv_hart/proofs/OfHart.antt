-- What the rules say of two events of one hart, they say over the hart's events alone.
use Rattle.rv_event.proofs.Carrying.{behind-hart}
use Rattle.rv_event.specs.Relations.{listed, through}
use Rattle.rv_hart.proofs.Common.{inl, inr, Addr, Behind, Ctrl, DataOf, DepKind, Lists}
use Rattle.rv_hart.proofs.Common.{◌≡◌, ◌≢◌, ℕ, Bool, true, false, ◌==◌, cond, List, [], ◌∷◌, ◌++◌, filter, find}
use Rattle.rv_hart.proofs.Common.{Contains, All, Any, Some, None, refl, sym, ap, ◌∙◌, subst, eqb-true, IsFalse}
use Rattle.rv_hart.proofs.Common.{IsTrue, list_any, none-some, All-contains, All-filter, filter_passes, arith}
use Rattle.rv_hart.proofs.Common.{common_steps, named-is, find-found, Indexed, lowest-none, none-lowest}
use Rattle.rv_hart.proofs.Common.{not_taken, Any-contains, Any-from_contains, All-from_contains, named-of_hart}
use Rattle.rv_hart.proofs.Common.{IsStore, is_exclusive, same_id, of_hart, Between, Paired, DependsOn}
use Rattle.rv_hart.proofs.Common.{fence_orders, Condition, overlapping_store, different_reads, reads_atomic_write}
use Rattle.rv_hart.proofs.Common.{fenced, after_acquire, before_release, both_rcsc, paired, address, data_of}
use Rattle.rv_hart.proofs.Common.{control, reads_dependent_write, after_dependent_address, IsDependentWrite, Rule}
use Rattle.rv_hart.proofs.Common.{IsPreserved, IsLowest, IsStale, event_fault, taken_fault, is_reserved, Id, Addr}
use Rattle.rv_hart.proofs.Common.{Ctrl, Event, MemoryModel, Preserved, AnyRule, Reaches, path-map}
use Rattle.rv_event.specs.Log.{named}

-- what a hart's events are
pub own_contains : (log : List Event) (h : ℕ) (a : Event) → Contains (of_hart h log) a → Contains log a ×
    (a.id.hart ≡ h)
own_contains log h a c =
    let p : Event → Bool = λ x. h == x.id.hart in
    let in_log : Contains log a = All-contains (λ x. Contains log x) (filter p log) a
    (All-filter p (λ x. Contains log x) log (All-from_contains (λ x. Contains log x) log (λ x d. d))) c in
    let passes : (h == a.id.hart) ≡ true = All-contains (λ x. p x ≡ true) (filter p log) a (filter_passes p log) c in
    (in_log, sym (eqb-true h a.id.hart passes))

-- an event of the hart is among its events
pub contains_own : (log : List Event) (h : ℕ) (a : Event) → Indexed log → Contains log a → a.id.hart ≡ h →
    Contains (of_hart h log) a
contains_own log h a known c same =
    let found : find (λ (x : Event). same_id a.id x.id) (of_hart a.id.hart log) ≡ Some a =
    sym (named-of_hart log a.id) ∙ known.own a c in
    subst (λ (n : ℕ). Contains (of_hart n log) a) same
    (find-found (λ (x : Event). same_id a.id x.id) (of_hart a.id.hart log) a found).0

filter-again : {X : Type 0} (p : X → Bool) (xs : List X) → filter p (filter p xs) ≡ filter p xs
filter-again p [] = refl
filter-again {X} p (x ∷ xs) = go (p x) refl (filter-again p xs)
  where
    go : (b : Bool) → p x ≡ b → filter p (filter p xs) ≡ filter p xs →
        filter p (cond b (x ∷ filter p xs) (filter p xs)) ≡ cond b (x ∷ filter p xs) (filter p xs)
    go true e again = rw (e, again)
    go false e again = again

-- a hart's events are those of itself
pub own_again : (log : List Event) (h : ℕ) → of_hart h (of_hart h log) ≡ of_hart h log
own_again log h = filter-again (λ (x : Event). h == x.id.hart) log

-- an id of the hart names the same event
pub named-own : (log : List Event) (h : ℕ) (i : Id) → i.hart ≡ h → named (of_hart h log) i ≡ named log i
named-own log h i same = grind (arith, common_steps, named-of_hart, find, own_again)

-- the hart's events and one more of it
pub own-push : (log : List Event) (e : Event) (h : ℕ) → e.id.hart ≡ h →
    of_hart h (log ++ e ∷ []) ≡ of_hart h log ++ e ∷ []
own-push log e h same = grind (arith, common_steps)

module _ (model : MemoryModel) (log : List Event) (h : ℕ) (known : Indexed log) where
  abbrev own : List Event
  own = of_hart h log

  All-to : (P : Event → Type 0) → All P log → All P own
  All-to P all = All-filter (λ x. h == x.id.hart) P log all

  -- what holds of each event of the hart, and of no other, holds of all
  All-from : (a b : Event) → a.id.hart ≡ h → (P : Event → Type 0) → All (λ m. Between a m b → P m) own →
      All (λ m. Between a m b → P m) log
  All-from a b at P all = All-from_contains (λ m. Between a m b → P m) log
      (λ m c between. All-contains (λ m. Between a m b → P m) own m all
      (contains_own log h m known c (sym between.after.hart ∙ at)) between)

  Any-to : (P : Event → Type 0) → ((m : Event) → P m → m.id.hart ≡ h) → Any P log → Any P own
  Any-to P at any = let x = Any-contains P log any in
      Any-from_contains P own x.0 (contains_own log h x.0 known x.1 (at x.0 x.2)) x.2

  Any-from : (P : Event → Type 0) → Any P own → Any P log
  Any-from P any = let x = Any-contains P own any in Any-from_contains P log x.0 (own_contains log h x.0 x.1).0 x.2

  Any-to-by : (P Q : Event → Type 0) → ((m : Event) → P m → m.id.hart ≡ h) →
      ((m : Event) → m.id.hart ≡ h → P m → Q m) → Any P log → Any Q own
  Any-to-by P Q at map any =
      let x = Any-contains P log any in
      let there = at x.0 x.2 in
      Any-from_contains Q own x.0 (contains_own log h x.0 known x.1 there) (map x.0 there x.2)

  Any-from-by : (P Q : Event → Type 0) → ((m : Event) → P m → Q m) → Any P own → Any Q log
  Any-from-by P Q map any = let x = Any-contains P own any in
      Any-from_contains Q log x.0 (own_contains log h x.0 x.1).0 (map x.0 x.2)

  -- what is behind a carrier of the hart is so among the hart's events
  behind_to : (c a : Event) → c.id.hart ≡ h → Behind log c a → Behind own c a
  behind_to c a at (listed carrier l) = listed carrier l
  behind_to c a at (through {m = m} carrier cm l rest) =
      let at' : m.id.hart ≡ h = l.0.hart ∙ at in
      through carrier (contains_own log h m known cm at') l (behind_to m a at' rest)

  behind_from : (c a : Event) → Behind own c a → Behind log c a
  behind_from c a (listed carrier l) = listed carrier l
  behind_from c a (through {m = m} carrier cm l rest) =
      through carrier (own_contains log h m cm).0 l (behind_from m a rest)

  depends_to : (kind : DepKind) (x a : Event) → x.id.hart ≡ h → DependsOn log kind x a → DependsOn own kind x a
  depends_to kind x a at (inl l) = inl l
  depends_to kind x a at (inr any) =
      inr (Any-to-by (λ m. Lists kind x m × Behind log m a) (λ m. Lists kind x m × Behind own m a)
      (λ m p. p.0.0.hart ∙ at) (λ m there p. (p.0, behind_to m a there p.1)) any)

  depends_from : (kind : DepKind) (x a : Event) → DependsOn own kind x a → DependsOn log kind x a
  depends_from kind x a (inl l) = inl l
  depends_from kind x a (inr any) =
      inr (Any-from-by (λ m. Lists kind x m × Behind own m a) (λ m. Lists kind x m × Behind log m a)
      (λ m p. (p.0, behind_from m a p.1)) any)

  -- a dependency is on an event of the same hart
  depends_hart : (kind : DepKind) (x a : Event) → DependsOn log kind x a → x.id.hart ≡ a.id.hart
  depends_hart kind x a (inl l) = sym l.0.hart
  depends_hart kind x a (inr any) =
      let y = Any-contains (λ m. Lists kind x m × Behind log m a) log any in
      sym y.2.0.0.hart ∙ behind-hart log a y.0 y.2.1

  writes_to : (a b m : Event) → m.id.hart ≡ h → IsDependentWrite log a b m → IsDependentWrite own a b m
  writes_to a b m at p = record {
    between = p.between;
    store = p.store;
    returns = p.returns;
    depends = elim p.depends [
      | inl addr ↦ inl (depends_to Addr m a at addr)
      | inr value ↦ inr (depends_to DataOf m a at value)
    ];
  }

  writes_from : (a b m : Event) → IsDependentWrite own a b m → IsDependentWrite log a b m
  writes_from a b m p = record {
    between = p.between;
    store = p.store;
    returns = p.returns;
    depends = elim p.depends [
      | inl addr ↦ inl (depends_from Addr m a addr)
      | inr value ↦ inr (depends_from DataOf m a value)
    ];
  }

  -- a pair of the log is one of the hart
  pub paired_to : (lr sc : Event) → Paired log lr sc → Paired own lr sc
  paired_to lr sc p = record {
    is_lr = p.is_lr;
    is_sc = p.is_sc;
    earlier = p.earlier;
    none_between = All-to (λ m. Between lr m sc → IsFalse (is_exclusive m.op)) p.none_between;
  }

  -- and the other way round
  pub paired_from : (lr sc : Event) → lr.id.hart ≡ h → Paired own lr sc → Paired log lr sc
  paired_from lr sc at p = record {
    is_lr = p.is_lr;
    is_sc = p.is_sc;
    earlier = p.earlier;
    none_between = All-from lr sc at (λ m. IsFalse (is_exclusive m.op)) p.none_between;
  }

  condition_to : (a b : Event) → a.id.hart ≡ h → (k : ℕ) → Condition model log a b k → Condition model own a b k
  condition_to a b at k (overlapping_store p) = overlapping_store p
  condition_to a b at k (different_reads p) =
      different_reads (record {
        first = p.first;
        second = p.second;
        word = p.word;
        versions = p.versions;
        none_between = All-to (λ m. Between a m b → IsStore m → m.word ≢ a.word) p.none_between;
      })
  condition_to a b at k (reads_atomic_write p) = reads_atomic_write p
  condition_to a b at k (fenced p) = fenced (Any-to (λ f. Between a f b × IsTrue (fence_orders f.op a.op b.op))
      (λ m q. sym q.0.after.hart ∙ at) p)
  condition_to a b at k (after_acquire p) = after_acquire p
  condition_to a b at k (before_release p) = before_release p
  condition_to a b at k (both_rcsc p q) = both_rcsc p q
  condition_to a b at k (paired p) = paired (paired_to a b p)
  condition_to a b at k (address p) = address (depends_to Addr b a (depends_hart Addr b a p ∙ at) p)
  condition_to a b at k (data_of p) = data_of (depends_to DataOf b a (depends_hart DataOf b a p ∙ at) p)
  condition_to a b at k (control s p) = control s (Any-to-by _ _ (λ m q. sym q.0.after.hart ∙ at)
      (λ m there q. (q.0, q.1, depends_to Ctrl m a there q.2)) p)
  condition_to a b at k (reads_dependent_write p) =
      reads_dependent_write (record {
        load = p.load;
        through = Any-to-by _ _ (λ m q. sym q.between.after.hart ∙ at) (writes_to a b) p.through;
      })
  condition_to a b at k (after_dependent_address p) =
      after_dependent_address (record {
        store = p.store;
        through = Any-to-by _ _ (λ m q. sym q.0.after.hart ∙ at)
            (λ m there q. (q.0, depends_to Addr m a there q.1)) p.through;
      })

  condition_from : (a b : Event) → a.id.hart ≡ h → (k : ℕ) → Condition model own a b k → Condition model log a b k
  condition_from a b at k (overlapping_store p) = overlapping_store p
  condition_from a b at k (different_reads p) =
      different_reads (record {
        first = p.first;
        second = p.second;
        word = p.word;
        versions = p.versions;
        none_between = All-from a b at (λ m. IsStore m → m.word ≢ a.word) p.none_between;
      })
  condition_from a b at k (reads_atomic_write p) = reads_atomic_write p
  condition_from a b at k (fenced p) = fenced (Any-from (λ f. Between a f b × IsTrue (fence_orders f.op a.op b.op)) p)
  condition_from a b at k (after_acquire p) = after_acquire p
  condition_from a b at k (before_release p) = before_release p
  condition_from a b at k (both_rcsc p q) = both_rcsc p q
  condition_from a b at k (paired p) = paired (paired_from a b at p)
  condition_from a b at k (address p) = address (depends_from Addr b a p)
  condition_from a b at k (data_of p) = data_of (depends_from DataOf b a p)
  condition_from a b at k (control s p) =
      control s (Any-from-by _ _ (λ m q. (q.0, q.1, depends_from Ctrl m a q.2)) p)
  condition_from a b at k (reads_dependent_write p) =
      reads_dependent_write (record { load = p.load; through = Any-from-by _ _ (writes_from a b) p.through })
  condition_from a b at k (after_dependent_address p) =
      after_dependent_address (record {
        store = p.store;
        through = Any-from-by _ _ (λ m q. (q.0, depends_from Addr m a q.1)) p.through;
      })

  -- a rule of the log is one of the hart
  pub rule_to : (k : ℕ) (a b : Event) → a.id.hart ≡ h → Rule model log k a b → Rule model own k a b
  rule_to k a b at r = grind (arith, common_steps, contains_own, condition_to)

  -- and the other way round
  pub rule_from : (k : ℕ) (a b : Event) → Rule model own k a b → Rule model log k a b
  rule_from k a b r = let c = own_contains log h a r.from in record {
    from = c.0;
    to = (own_contains log h b r.to).0;
    from_memory = r.from_memory;
    to_memory = r.to_memory;
    earlier = r.earlier;
    condition = condition_from a b c.1 k r.condition;
  }

  -- so is any rule
  pub any_rule_to : (a b : Event) → a.id.hart ≡ h → AnyRule model log a b → AnyRule model own a b
  any_rule_to a b at r = (r.0, rule_to r.0 a b at r.1)

  -- and the other way round
  pub any_rule_from : (a b : Event) → AnyRule model own a b → AnyRule model log a b
  any_rule_from a b r = (r.0, rule_from r.0 a b r.1)

  -- rules that lead in the hart lead in the log
  pub reaches_from : (a b : Event) → Reaches model own a b → Reaches model log a b
  reaches_from a b p = path-map Event (AnyRule model own) (AnyRule model log) any_rule_from a b p

  -- preserved program order of the log is that of the hart
  pub preserved_to : (k : ℕ) (i j : Id) → i.hart ≡ h → IsPreserved model log k i j → IsPreserved model own k i j
  preserved_to k i j at p =
      let from : i.hart ≡ p.a.id.hart = ap (λ (x : Id). x.hart) (named-is log i p.a p.first).1 in
      let to : j.hart ≡ p.b.id.hart = ap (λ (x : Id). x.hart) (named-is log j p.b p.second).1 in
      record {
        a = p.a;
        b = p.b;
        first = named-own log h i at ∙ p.first;
        second = named-own log h j (to ∙ sym p.rule.earlier.hart ∙ sym from ∙ at) ∙ p.second;
        rule = rule_to k p.a p.b (sym from ∙ at) p.rule;
      }

  -- and the other way round
  pub preserved_from : (k : ℕ) (i j : Id) → IsPreserved model own k i j → IsPreserved model log k i j
  preserved_from k i j p =
      let first = named-is own i p.a p.first in
      let second = named-is own j p.b p.second in
      let from : i.hart ≡ h = ap (λ (x : Id). x.hart) first.1 ∙ (own_contains log h p.a first.0).1 in
      let to : j.hart ≡ h = ap (λ (x : Id). x.hart) second.1 ∙ (own_contains log h p.b second.0).1 in
      record {
        a = p.a;
        b = p.b;
        first = sym (named-own log h i from) ∙ p.first;
        second = sym (named-own log h j to) ∙ p.second;
        rule = rule_from k p.a p.b p.rule;
      }

  -- the lowest rule of the hart is that of the log
  pub lowest_from : (k : ℕ) (i j : Id) → i.hart ≡ h → IsLowest model own i (Preserved k) j →
      IsLowest model log i (Preserved k) j
  lowest_from k i j at low n less p = low n less (preserved_to n i j at p)

  -- a stale pair of the log is one of the hart
  pub stale_to : (i j : Id) → i.hart ≡ h → IsStale log i j → IsStale own i j
  stale_to i j at s = grind (arith, common_steps, named-is, named-own)

  -- and the other way round
  pub stale_from : (i j : Id) → IsStale own i j → IsStale log i j
  stale_from i j s =
      let first = named-is own i s.a s.load_named in
      let second = named-is own j s.b s.store_named in
      let from : i.hart ≡ h = ap (λ (x : Id). x.hart) first.1 ∙ (own_contains log h s.a first.0).1 in
      let to : j.hart ≡ h = ap (λ (x : Id). x.hart) second.1 ∙ (own_contains log h s.b second.0).1 in
      record {
        a = s.a;
        b = s.b;
        load_named = sym (named-own log h i from) ∙ s.load_named;
        store_named = sym (named-own log h j to) ∙ s.store_named;
        is_load = s.is_load;
        is_store = s.is_store;
        word = s.word;
        earlier = s.earlier;
        versions = s.versions;
      }

-- ---- faults
find-none : {X : Type 0} (p q : X → Bool) (xs : List X) → find p xs ≡ None → find p (filter q xs) ≡ None
find-none p q [] e = refl
find-none {X} p q (x ∷ xs) e = go (p x) refl (q x) e (find-none p q xs)
  where
    go : (b : Bool) → p x ≡ b → (d : Bool) → cond b (Some x) (find p xs) ≡ None →
        (find p xs ≡ None → find p (filter q xs) ≡ None) → find p (cond d (x ∷ filter q xs) (filter q xs)) ≡ None
    go true t d f again = absurd (none-some x (sym f))
    go false t true f again = rw t (again f)
    go false t false f again = again f

taken_none : (log : List Event) (h : ℕ) (e : Event) → taken_fault log e ≡ None → taken_fault (of_hart h log) e ≡ None
taken_none log h e none = grind (arith, common_steps, not_taken, find, find-none)

-- equal tests find the same
pub any-same : {X : Type 0} (p q : X → Bool) (xs : List X) → ((x : X) → p x ≡ q x) → list_any p xs ≡ list_any q xs
any-same p q [] same = refl
any-same p q (x ∷ xs) same = rw (same x, any-same p q xs same)

-- an event without a fault over the log has none over its hart's events
pub fault_own : (log : List Event) (e : Event) → event_fault log e ≡ None → event_fault (of_hart e.id.hart log) e ≡ None
fault_own log e none =
    grind (
      arith,
      common_steps,
      lowest-none,
      own_again,
      any-same,
      taken_none,
      none-lowest,
      named-own,
    )

-- nor does it change whether the hart has a reservation
pub reserved-own : (log : List Event) (h : ℕ) → is_reserved (of_hart h log) h ≡ is_reserved log h
reserved-own log h = rw (own_again log h)
