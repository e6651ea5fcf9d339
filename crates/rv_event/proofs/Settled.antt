-- An edge between two events of a log is decided for good: no later event adds one or takes one
-- away.
use Rattle.rv_event.proofs.Common.{arith, common_steps, rules, MemoryModel, ◌≡◌, ℕ, List, [], ◌∷◌, ◌++◌, Contains}
use Rattle.rv_event.proofs.Common.{All, Any, Some, ◌⊎◌, inl, inr, sym, ap, ◌∙◌, IsFalse, IsTrue, ◌≢◌, ◌==◌}
use Rattle.rv_event.proofs.Common.{All-contains, filter-append, Contains-push_cases, IsStore, is_exclusive}
use Rattle.rv_event.proofs.Common.{of_hart, writer, Earlier, Between, Paired, DependsOn, fence_orders, Condition}
use Rattle.rv_event.proofs.Common.{overlapping_store, different_reads, reads_atomic_write, fenced, after_acquire}
use Rattle.rv_event.proofs.Common.{before_release, both_rcsc, paired, address, data_of, control}
use Rattle.rv_event.proofs.Common.{reads_dependent_write, after_dependent_address, IsDependentWrite, HasReason}
use Rattle.rv_event.proofs.Common.{IsEdge, Addr, Ctrl, Id, Event, Reason, Preserved, Coherence, ReadsFrom}
use Rattle.rv_event.proofs.Common.{FromRead, AtomicIn, AtomicOut}
use Rattle.rv_event.proofs.Common.{Behind, DataOf, Lists}
use Rattle.rv_event.specs.Relations.{listed, through}
use Rattle.rv_event.specs.declared.event.DepKind.{DepKind}
use Rattle.rv_event.proofs.Names.{named-is, writer-is}
use Rattle.rv_event.proofs.Indexed.{IndexedWithin, SoundWithin, indexed-push}
use Rattle.rv_event.proofs.Growing.{Grows, Any-contains, Any-from_contains, All-from_contains, Contains-grows}
use Rattle.rv_event.proofs.Growing.{earlier_old}

module _ {limit : ℕ} (model : MemoryModel) (old new : List Event) (grows : Grows old new)
    (known : IndexedWithin limit old) (known' : IndexedWithin limit new) where
  Any-settled : (b : Event) → Contains old b → (P : Event → Type 0) → ((m : Event) → P m → Earlier m b) →
      Any P new → Any P old
  Any-settled b cb P early any = search (Any-contains, Any-from_contains, earlier_old, rules)

  All-settled : (P : Event → Type 0) → All P new → All P old
  All-settled P all = All-from_contains P old
      (λ m c. All-contains P new m all (Contains-grows model old new grows known known' m c))

  writer-settled : (word version : ℕ) (w : Event) → Contains old w → writer new word version ≡ Some w →
      writer old word version ≡ Some w
  writer-settled word version w c e =
      let is = writer-is new word version w e in
      rw (is.word, is.version) (known.written w c is.store)

  Paired-settled : (lr sc : Event) → Paired new lr sc → Paired old lr sc
  Paired-settled lr sc p = record {
    is_lr = p.is_lr;
    is_sc = p.is_sc;
    earlier = p.earlier;
    none_between = All-settled (λ m. Between lr m sc → IsFalse (is_exclusive m.op)) p.none_between;
  }

  -- so it is with what is behind an old carrier, and with the dependencies of an old event
  Behind-settled : (c a : Event) → Contains old c → Behind new c a → Behind old c a
  Behind-settled c a cc (listed is l) = listed is l
  Behind-settled c a cc (through {m = m} is cm l rest) =
      let old_m = earlier_old model old new grows known known' m c cc cm l.0 in
      through is old_m l (Behind-settled m a old_m rest)

  Any-settled-by : (b : Event) → Contains old b → (P Q : Event → Type 0) → ((m : Event) → P m → Earlier m b) →
      ((m : Event) → Contains old m → P m → Q m) → Any P new → Any Q old
  Any-settled-by b cb P Q early map any =
      let f = Any-contains P new any in
      let old_m = earlier_old model old new grows known known' f.0 b cb f.1 (early f.0 f.2) in
      Any-from_contains Q old f.0 old_m (map f.0 old_m f.2)

  DependsOn-settled : (kind : DepKind) (e a : Event) → Contains old e → DependsOn new kind e a →
      DependsOn old kind e a
  DependsOn-settled kind e a ce (inl l) = inl l
  DependsOn-settled kind e a ce (inr any) =
      inr (Any-settled-by e ce (λ m. Lists kind e m × Behind new m a) (λ m. Lists kind e m × Behind old m a)
      (λ m p. p.0.0) (λ m cm p. (p.0, Behind-settled m a cm p.1)) any)

  IsDependentWrite-settled : (a b m : Event) → Contains old m → IsDependentWrite new a b m →
      IsDependentWrite old a b m
  IsDependentWrite-settled a b m cm h = record {
    between = h.between;
    store = h.store;
    returns = h.returns;
    depends = elim h.depends [
      | inl addr ↦ inl (DependsOn-settled Addr m a cm addr)
      | inr value ↦ inr (DependsOn-settled DataOf m a cm value)
    ];
  }

  Condition-settled : (a b : Event) → Contains old b → (k : ℕ) → Condition model new a b k → Condition model old a b k
  Condition-settled a b cb k (overlapping_store h) = overlapping_store h
  Condition-settled a b cb k (different_reads h) =
      different_reads (record {
        first = h.first;
        second = h.second;
        word = h.word;
        versions = h.versions;
        none_between = All-settled (λ m. Between a m b → IsStore m → m.word ≢ a.word) h.none_between;
      })
  Condition-settled a b cb k (reads_atomic_write h) = reads_atomic_write h
  Condition-settled a b cb k (fenced h) =
      fenced (Any-settled b cb (λ f. Between a f b × IsTrue (fence_orders f.op a.op b.op)) (λ m p. p.0.before) h)
  Condition-settled a b cb k (after_acquire h) = after_acquire h
  Condition-settled a b cb k (before_release h) = before_release h
  Condition-settled a b cb k (both_rcsc h g) = both_rcsc h g
  Condition-settled a b cb k (paired h) = paired (Paired-settled a b h)
  Condition-settled a b cb k (address h) = address (DependsOn-settled Addr b a cb h)
  Condition-settled a b cb k (data_of h) = data_of (DependsOn-settled DataOf b a cb h)
  Condition-settled a b cb k (control s h) =
      control s (Any-settled-by b cb _ _ (λ m p. p.0.before)
      (λ m cm p. (p.0, p.1, DependsOn-settled Ctrl m a cm p.2)) h)
  Condition-settled a b cb k (reads_dependent_write h) =
      reads_dependent_write (record {
        load = h.load;
        through = Any-settled-by b cb _ _ (λ m p. p.between.before) (IsDependentWrite-settled a b) h.through;
      })
  Condition-settled a b cb k (after_dependent_address h) =
      after_dependent_address (record {
        store = h.store;
        through = Any-settled-by b cb _ _ (λ m p. p.0.before)
            (λ m cm p. (p.0, DependsOn-settled Addr m a cm p.1)) h.through;
      })

  -- a reason between old events was one before
  pub HasReason-settled : (a b : Event) → Contains old a → Contains old b → (reason : Reason) →
      HasReason model new reason a b → HasReason model old reason a b
  HasReason-settled a b ca cb (Preserved k) h =
      record {
        from = ca;
        to = cb;
        from_memory = h.from_memory;
        to_memory = h.to_memory;
        earlier = h.earlier;
        condition = Condition-settled a b cb k h.condition;
      }
  HasReason-settled a b ca cb Coherence h = h
  HasReason-settled a b ca cb ReadsFrom h =
      record { load = h.load; is_writer = writer-settled b.word b.read a ca h.is_writer; not_earlier = h.not_earlier }
  HasReason-settled a b ca cb FromRead h = h
  HasReason-settled a b ca cb AtomicIn h =
      record {
        lr = h.lr;
        of_log = earlier_old model old new grows known known' h.lr b cb h.of_log h.paired.earlier;
        paired = Paired-settled h.lr b h.paired;
        is_writer = writer-settled h.lr.word h.lr.read a ca h.is_writer;
      }
  HasReason-settled a b ca cb AtomicOut h =
      record {
        lr = h.lr;
        of_log = earlier_old model old new grows known known' h.lr a ca h.of_log h.paired.earlier;
        paired = Paired-settled h.lr a h.paired;
        store = h.store;
        word = h.word;
        other_hart = grind (arith, common_steps);
        versions = h.versions;
      }

  -- an edge of the new log between two old events is one of the old log
  pub IsEdge-settled : (i j : Id) (reason : Reason) (e : IsEdge model new i reason j) → Contains old e.a →
      Contains old e.b → IsEdge model old i reason j
  IsEdge-settled i j reason e ca cb = search (named-is, HasReason-settled, rules)

-- one more event
pub grows-push : (log : List Event) (e : Event) → Grows log (log ++ e ∷ [])
grows-push log e hart = (of_hart hart (e ∷ []), filter-append (λ (x : Event). hart == x.id.hart) log (e ∷ []))

-- each edge of the grown log is an old one, or has the new event at an end
pub edge-push : {limit : ℕ} (model : MemoryModel) (log : List Event) (e : Event) → IndexedWithin limit log →
    SoundWithin limit log e →
    (i j : Id) (reason : Reason) → IsEdge model (log ++ e ∷ []) i reason j → IsEdge model log i reason j ⊎
    ((i ≡ e.id) ⊎ (j ≡ e.id))
edge-push model log e known sound i j reason edge =
    go (Contains-push_cases log e edge.a from.0) (Contains-push_cases log e edge.b to.0)
  where
    new : List Event
    new = log ++ e ∷ []

    from : Contains new edge.a × (i ≡ edge.a.id)
    from = named-is new i edge.a edge.from_named

    to : Contains new edge.b × (j ≡ edge.b.id)
    to = named-is new j edge.b edge.to_named

    go : Contains log edge.a ⊎ (e ≡ edge.a) → Contains log edge.b ⊎ (e ≡ edge.b) → IsEdge model log i reason j ⊎
        ((i ≡ e.id) ⊎ (j ≡ e.id))
    go (inr is) _ = inr (inl (from.1 ∙ ap (λ (x : Event). x.id) (sym is)))
    go (inl ca) (inr is) = inr (inr (to.1 ∙ ap (λ (x : Event). x.id) (sym is)))
    go (inl ca) (inl cb) = inl (IsEdge-settled model log new (grows-push log e) known (indexed-push log e known sound) i
        j reason edge ca cb)
