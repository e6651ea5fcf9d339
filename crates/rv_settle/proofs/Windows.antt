-- A window has the edges of its log: what two events that are kept have between them is kept.
use Rattle.std.proofs.Common.{ℕ, ◌≡◌, ◌≢◌, ◌∙◌, ◌<◌, ◌≤◌, ◌-◌, All, Any, Contains}
use Rattle.std.proofs.Common.{IsFalse, IsTrue, List, Some, ap, arith, filter, inl, inr, subst, sym, true}
use Rattle.std.specs.Prelude.{nat_le}
use Rattle.std.proofs.lemmas.Bool.{le-leb, leb-true}
use Rattle.std.proofs.lemmas.List.Elements.{All-contains, filter_passes}
use Rattle.std.proofs.lemmas.Option.{same_Some}
use Rattle.rv_event.proofs.Carrying.{behind-carrier}
use Rattle.rv_event.proofs.Growing.{All-from_contains, Any-contains, Any-from_contains}
use Rattle.rv_event.proofs.Indexed.{IndexedWithin}
use Rattle.rv_event.proofs.Merged.{Contains-filter, Contains-unfilter}
use Rattle.rv_event.proofs.Names.{Contains-map, Contains-mapped, writer-is}
use Rattle.rv_event.specs.Annotations.{IsAcquire, IsRcsc, IsRelease}
use Rattle.rv_event.specs.Edges.{HasReason, IsEdge, IsStale}
use Rattle.rv_event.specs.Log.{Between, Earlier, events, named, writer}
use Rattle.rv_event.specs.Operations.{IsLoad, IsMemory, IsStore, is_exclusive}
use Rattle.rv_event.specs.Preserved.{Condition, address, after_acquire, after_dependent_address, before_release}
use Rattle.rv_event.specs.Preserved.{both_rcsc, control, data_of, different_reads, fenced, overlapping_store, paired}
use Rattle.rv_event.specs.Preserved.{IsDependentWrite, reads_atomic_write, reads_dependent_write}
use Rattle.rv_event.specs.Relations.{Behind, DependsOn, Lists, Paired, fence_orders}
use Rattle.rv_event.specs.declared.event.Dep.{Dep}
use Rattle.rv_event.specs.declared.event.DepKind.{DepKind}
use Rattle.rv_event.specs.declared.event.DepKind.TheVariants.{Addr, Ctrl, DataOf}
use Rattle.rv_event.specs.declared.event.Entry.{Entry}
use Rattle.rv_event.specs.declared.event.Event.{Event}
use Rattle.rv_event.specs.declared.event.Id.{Id}
use Rattle.rv_event.specs.declared.event.Op.TheVariants.{Branch, Carrier}
use Rattle.rv_event.specs.declared.memory_model.MemoryModel.{MemoryModel}
use Rattle.rv_event.specs.declared.memory_model.MemoryModel.TheVariants.{Rvwmo, Ztso}
use Rattle.rv_event.specs.declared.reason.Reason.{Reason}
use Rattle.rv_event.specs.declared.reason.Reason.TheVariants.{AtomicIn, AtomicOut, Coherence, FromRead, Preserved}
use Rattle.rv_event.specs.declared.reason.Reason.TheVariants.{ReadsFrom}
use Rattle.rv_settle.specs.Windows.{IsKept, KeepsPairs, deps_from, renumbered, window}

-- annotations do not look at numbers

acquire-in : (model : MemoryModel) (first : ℕ → ℕ) (e : Event) → IsAcquire model e →
    IsAcquire model (renumbered first e)
acquire-in Rvwmo first e is = is
acquire-in Ztso first e is = is

pub acquire-back :
    (model : MemoryModel) (first : ℕ → ℕ) (e : Event) → IsAcquire model (renumbered first e) → IsAcquire model e
acquire-back Rvwmo first e is = is
acquire-back Ztso first e is = is

release-in : (model : MemoryModel) (first : ℕ → ℕ) (e : Event) → IsRelease model e →
    IsRelease model (renumbered first e)
release-in Rvwmo first e is = is
release-in Ztso first e is = is

release-back :
    (model : MemoryModel) (first : ℕ → ℕ) (e : Event) → IsRelease model (renumbered first e) → IsRelease model e
release-back Rvwmo first e is = is
release-back Ztso first e is = is

rcsc-in : (model : MemoryModel) (first : ℕ → ℕ) (e : Event) → IsRcsc model e → IsRcsc model (renumbered first e)
rcsc-in Rvwmo first e is = is
rcsc-in Ztso first e is = is

rcsc-back : (model : MemoryModel) (first : ℕ → ℕ) (e : Event) → IsRcsc model (renumbered first e) → IsRcsc model e
rcsc-back Rvwmo first e is = is
rcsc-back Ztso first e is = is

-- where no event of a log is a carrier, a dependency is one that an event lists
listed-alone : (log : List Event) → ((m : Event) → Contains log m → m.op ≢ Carrier) → (kind : DepKind) (e a : Event) →
    DependsOn log kind e a → Lists kind e a
listed-alone log none kind e a (inl l) = l
listed-alone log none kind e a (inr any) =
    let found = Any-contains (λ m. Lists kind e m × Behind log m a) log any in
    absurd (none found.0 found.1 (behind-carrier log a found.0 found.2.1).0)

module _ (first : ℕ → ℕ) where
  -- what is later than an event that is kept is kept
  pub kept-later : (a m : Event) → IsKept first a → Earlier a m → IsKept first m
  kept-later a m kept earlier =
      let same = ap first earlier.hart in let later = earlier.seq in omega (arith, same, later, kept)

  -- program order stays
  pub earlier-in : (a b : Event) → IsKept first a → Earlier a b → Earlier (renumbered first a) (renumbered first b)
  earlier-in a b kept earlier = record {
    hart = earlier.hart;
    seq = let same = ap first earlier.hart in let later = earlier.seq in omega (arith, same, later, kept);
  }

  pub earlier-back : (a b : Event) → IsKept first a → IsKept first b →
      Earlier (renumbered first a) (renumbered first b) → Earlier a b
  earlier-back a b kept kept' earlier = record {
    hart = earlier.hart;
    seq = let same = ap first earlier.hart in let later = earlier.seq in omega (arith, same, later, kept, kept');
  }

  between-in : (a m b : Event) → IsKept first a → Between a m b →
      Between (renumbered first a) (renumbered first m) (renumbered first b)
  between-in a m b kept between = record {
    after = earlier-in a m kept between.after;
    before = earlier-in m b (kept-later a m kept between.after) between.before;
  }

  between-back : (a m b : Event) → IsKept first a → IsKept first m → IsKept first b →
      Between (renumbered first a) (renumbered first m) (renumbered first b) → Between a m b
  between-back a m b kept kept-m kept-b between = record {
    after = earlier-back a m kept kept-m between.after;
    before = earlier-back m b kept-m kept-b between.before;
  }

  -- what a list of dependencies names goes on to be named
  lists-in : (kind : DepKind) (e a : Event) → IsKept first a → Lists kind e a →
      Lists kind (renumbered first e) (renumbered first a)
  lists-in kind e a kept (earlier, among) =
      let same : first a.id.hart ≡ first e.id.hart = ap first earlier.hart in
      let low : first e.id.hart ≤ a.id.seq = subst (λ n. n ≤ a.id.seq) same kept in
      let named : Contains (deps_from (first e.id.hart) e.deps)
      (record { kind = kind; seq = a.id.seq - first e.id.hart }) =
      Contains-mapped (λ (d : Dep). record { kind = d.kind; seq = d.seq - first e.id.hart })
      (filter (λ (d : Dep). nat_le (first e.id.hart) d.seq) e.deps) (record { kind = kind; seq = a.id.seq })
      (Contains-filter (λ (d : Dep). nat_le (first e.id.hart) d.seq) e.deps (record { kind = kind; seq = a.id.seq })
      among (le-leb (first e.id.hart) a.id.seq low)) in (
        earlier-in a e kept earlier,
        subst (λ n. Contains (deps_from (first e.id.hart) e.deps) (record { kind = kind; seq = a.id.seq - n }))
            (sym same) named,
      )

  lists-back : (kind : DepKind) (e a : Event) → IsKept first a → IsKept first e →
      Lists kind (renumbered first e) (renumbered first a) → Lists kind e a
  lists-back kind e a kept kept-e (earlier, among) =
      let back : Earlier a e = earlier-back a e kept kept-e earlier in
      let same : first a.id.hart ≡ first e.id.hart = ap first back.hart in
      let found = Contains-map (λ (d : Dep). record { kind = d.kind; seq = d.seq - first e.id.hart })
      (filter (λ (d : Dep). nat_le (first e.id.hart) d.seq) e.deps)
      (record { kind = kind; seq = a.id.seq - first a.id.hart }) among in
      let high : first e.id.hart ≤ found.0.seq = leb-true (first e.id.hart) found.0.seq
      (All-contains (λ (d : Dep). nat_le (first e.id.hart) d.seq ≡ true)
      (filter (λ (d : Dep). nat_le (first e.id.hart) d.seq) e.deps) found.0
      (filter_passes (λ (d : Dep). nat_le (first e.id.hart) d.seq) e.deps) found.1) in
      let seq : found.0.seq - first e.id.hart ≡ a.id.seq - first a.id.hart = ap (λ (d : Dep). d.seq) found.2 in
      let kind-is : found.0.kind ≡ kind = ap (λ (d : Dep). d.kind) found.2 in
      let seq-is : found.0.seq ≡ a.id.seq = omega (arith, seq, same, high, kept) in
      let is : found.0 ≡ record { kind = kind; seq = a.id.seq } = grind arith in (
        back,
        subst (Contains e.deps) is
            (Contains-unfilter (λ (d : Dep). nat_le (first e.id.hart) d.seq) e.deps found.0 found.1),
      )

module _ {limit other : ℕ} (log : List Event) (w : List Event) (first : ℕ → ℕ) (known : IndexedWithin limit log)
    (known' : IndexedWithin other w)
    (into : (a : Event) → Contains log a → IsKept first a → Contains w (renumbered first a))
    (onto : (x : Event) → Contains w x → (a : Event) × Contains log a × IsKept first a × (renumbered first a ≡ x)) where
  -- ids go on to name their events
  named-in : (a : Event) → Contains log a → IsKept first a → named w (renumbered first a).id ≡ Some (renumbered first a)
  named-in a c kept = known'.own (renumbered first a) (into a c kept)

  named-log : (a x : Event) → Contains log a → named log a.id ≡ Some x → x ≡ a
  named-log a x c is = same_Some x a (sym is ∙ known.own a c)

  named-window : (a x : Event) → Contains log a → IsKept first a → named w (renumbered first a).id ≡ Some x →
      x ≡ renumbered first a
  named-window a x c kept is = same_Some x (renumbered first a) (sym is ∙ named-in a c kept)

  -- a store that is kept goes on to be the writer of its version
  writer-in : (a : Event) (word version : ℕ) → IsKept first a → writer log word version ≡ Some a →
      writer w word version ≡ Some (renumbered first a)
  writer-in a word version kept is =
      let found = writer-is log word version a is in
      rw (found.word, found.version) (known'.written (renumbered first a) (into a found.of_log kept) found.store)

  writer-back : (a : Event) (word version : ℕ) → Contains log a → IsKept first a →
      writer w word version ≡ Some (renumbered first a) → writer log word version ≡ Some a
  writer-back a word version c kept is =
      let found = writer-is w word version (renumbered first a) is in
      rw (found.word, found.version) (known.written a c found.store)

  -- what holds of some event of the log holds of one of the window, and the other way round
  any-in : (P Q : Event → Type 0) → ((m : Event) → Contains log m → P m → IsKept first m × Q (renumbered first m)) →
      Any P log → Any Q w
  any-in P Q over any =
      let found = Any-contains P log any in
      let there = over found.0 found.1 found.2 in
      Any-from_contains Q w (renumbered first found.0) (into found.0 found.1 there.0) there.1

  pub any-back : (P Q : Event → Type 0) →
      ((m : Event) → Contains log m → IsKept first m → Q (renumbered first m) → P m) → Any Q w → Any P log
  any-back P Q over any =
      let found = Any-contains Q w any in
      let from = onto found.0 found.1 in
      Any-from_contains P log from.0 from.1 (over from.0 from.1 from.2 (subst Q (sym from.3) found.2))

  -- and so with all
  all-in : (P Q : Event → Type 0) → ((m : Event) → IsKept first m → P m → Q (renumbered first m)) → All P log → All Q w
  all-in P Q over all =
      All-from_contains Q w (λ x c.
      let from = onto x c in
      subst Q from.3 (over from.0 from.2 (All-contains P log from.0 all from.1)))

  all-back : (P Q : Event → Type 0) → ((m : Event) → (IsKept first m → Q (renumbered first m)) → P m) → All Q w →
      All P log
  all-back P Q over all =
      All-from_contains P log (λ m c. over m (λ kept. All-contains Q w (renumbered first m) all (into m c kept)))

  -- pairs stay
  pub paired-in : (lr sc : Event) → IsKept first lr → IsKept first sc → Paired log lr sc →
      Paired w (renumbered first lr) (renumbered first sc)
  paired-in lr sc kept kept' p = record {
    is_lr = p.is_lr;
    is_sc = p.is_sc;
    earlier = earlier-in first lr sc kept p.earlier;
    none_between = all-in (λ m. Between lr m sc → IsFalse (is_exclusive m.op))
        (λ x. Between (renumbered first lr) x (renumbered first sc) → IsFalse (is_exclusive x.op))
        (λ m kept-m none between. none (between-back first lr m sc kept kept-m kept' between)) p.none_between;
  }

  pub paired-back : (lr sc : Event) → IsKept first lr → IsKept first sc →
      Paired w (renumbered first lr) (renumbered first sc) → Paired log lr sc
  paired-back lr sc kept kept' p = record {
    is_lr = p.is_lr;
    is_sc = p.is_sc;
    earlier = earlier-back first lr sc kept kept' p.earlier;
    none_between = all-back (λ m. Between lr m sc → IsFalse (is_exclusive m.op))
        (λ x. Between (renumbered first lr) x (renumbered first sc) → IsFalse (is_exclusive x.op))
        (λ m none between. none (kept-later first lr m kept between.after) (between-in first lr m sc kept between))
        p.none_between;
  }

  module _ (model : MemoryModel) (plain : (a : Event) → Contains log a → a.op ≢ Carrier) (pairs : KeepsPairs first log)
      (a b : Event) (ca : Contains log a) (cb : Contains log b) (kept : IsKept first a) (kept' : IsKept first b) where
    plain' : (x : Event) → Contains w x → x.op ≢ Carrier
    plain' x c =
        let from = onto x c in
        subst (λ (y : Event). y.op ≢ Carrier) from.3 (plain from.0 from.1)

    -- a dependency on an event that is kept stays
    depends-in : (kind : DepKind) (m : Event) → DependsOn log kind m a →
        DependsOn w kind (renumbered first m) (renumbered first a)
    depends-in kind m d = inl (lists-in first kind m a kept (listed-alone log plain kind m a d))

    pub depends-back : (kind : DepKind) (m : Event) → IsKept first m →
        DependsOn w kind (renumbered first m) (renumbered first a) → DependsOn log kind m a
    depends-back kind m kept-m d =
        inl (lists-back first kind m a kept kept-m
        (listed-alone w plain' kind (renumbered first m) (renumbered first a) d))

    -- each condition stays
    condition-in : (k : ℕ) → Condition model log a b k → Condition model w (renumbered first a) (renumbered first b) k
    condition-in k (overlapping_store h) = overlapping_store (record { store = h.store; word = h.word })
    condition-in k (different_reads h) = different_reads (record {
      first = h.first;
      second = h.second;
      word = h.word;
      versions = h.versions;
      none_between = all-in (λ m. Between a m b → IsStore m → m.word ≢ a.word)
          (λ x. Between (renumbered first a) x (renumbered first b) → IsStore x → x.word ≢ a.word)
          (λ m kept-m none between. none (between-back first a m b kept kept-m kept' between)) h.none_between;
    })
    condition-in k (reads_atomic_write h) = reads_atomic_write (record {
      atomic = h.atomic;
      load = h.load;
      returns = record { word = h.returns.word; version = h.returns.version };
    })
    condition-in k (fenced any) =
        fenced (any-in (λ f. Between a f b × IsTrue (fence_orders f.op a.op b.op))
        (λ x. Between (renumbered first a) x (renumbered first b) × IsTrue (fence_orders x.op a.op b.op))
        (λ f c p. (kept-later first a f kept p.0.after, (between-in first a f b kept p.0, p.1))) any)
    condition-in k (after_acquire h) = after_acquire (acquire-in model first a h)
    condition-in k (before_release h) = before_release (release-in model first b h)
    condition-in k (both_rcsc h i) = both_rcsc (rcsc-in model first a h) (rcsc-in model first b i)
    condition-in k (paired h) = paired (paired-in a b kept kept' h)
    condition-in k (address h) = address (depends-in Addr b h)
    condition-in k (data_of h) = data_of (depends-in DataOf b h)
    condition-in k (control s any) =
        control s (any-in (λ m. Between a m b × (m.op ≡ Branch) × DependsOn log Ctrl m a)
        (λ x. Between (renumbered first a) x (renumbered first b) × (x.op ≡ Branch) × DependsOn w Ctrl x
        (renumbered first a))
        (λ m c p. (
          kept-later first a m kept p.0.after,
          (between-in first a m b kept p.0, p.1, depends-in Ctrl m p.2),
        )) any)
    condition-in k (reads_dependent_write h) = reads_dependent_write (record {
      load = h.load;
      through = any-in (IsDependentWrite log a b) (IsDependentWrite w (renumbered first a) (renumbered first b))
          (λ m c p. (
            kept-later first a m kept p.between.after,
            record {
              between = between-in first a m b kept p.between;
              store = p.store;
              returns = record { word = p.returns.word; version = p.returns.version };
              depends = elim p.depends [
                | inl d ↦ inl (depends-in Addr m d)
                | inr d ↦ inr (depends-in DataOf m d)
              ];
            },
          )) h.through;
    })
    condition-in k (after_dependent_address h) = after_dependent_address (record {
      store = h.store;
      through = any-in (λ m. Between a m b × DependsOn log Addr m a)
          (λ x. Between (renumbered first a) x (renumbered first b) × DependsOn w Addr x (renumbered first a))
          (λ m c p. (kept-later first a m kept p.0.after, (between-in first a m b kept p.0, depends-in Addr m p.1)))
          h.through;
    })

    -- and none comes
    condition-back : (k : ℕ) → Condition model w (renumbered first a) (renumbered first b) k → Condition model log a b k
    condition-back k (overlapping_store h) = overlapping_store (record { store = h.store; word = h.word })
    condition-back k (different_reads h) = different_reads (record {
      first = h.first;
      second = h.second;
      word = h.word;
      versions = h.versions;
      none_between = all-back (λ m. Between a m b → IsStore m → m.word ≢ a.word)
          (λ x. Between (renumbered first a) x (renumbered first b) → IsStore x → x.word ≢ a.word)
          (λ m none between. none (kept-later first a m kept between.after) (between-in first a m b kept between))
          h.none_between;
    })
    condition-back k (reads_atomic_write h) = reads_atomic_write (record {
      atomic = h.atomic;
      load = h.load;
      returns = record { word = h.returns.word; version = h.returns.version };
    })
    condition-back k (fenced any) =
        fenced (any-back (λ f. Between a f b × IsTrue (fence_orders f.op a.op b.op))
        (λ x. Between (renumbered first a) x (renumbered first b) × IsTrue (fence_orders x.op a.op b.op))
        (λ f c kept-f p. (between-back first a f b kept kept-f kept' p.0, p.1)) any)
    condition-back k (after_acquire h) = after_acquire (acquire-back model first a h)
    condition-back k (before_release h) = before_release (release-back model first b h)
    condition-back k (both_rcsc h i) = both_rcsc (rcsc-back model first a h) (rcsc-back model first b i)
    condition-back k (paired h) = paired (paired-back a b kept kept' h)
    condition-back k (address h) = address (depends-back Addr b kept' h)
    condition-back k (data_of h) = data_of (depends-back DataOf b kept' h)
    condition-back k (control s any) =
        control s (any-back (λ m. Between a m b × (m.op ≡ Branch) × DependsOn log Ctrl m a)
        (λ x. Between (renumbered first a) x (renumbered first b) × (x.op ≡ Branch) × DependsOn w Ctrl x
        (renumbered first a))
        (λ m c kept-m p. (between-back first a m b kept kept-m kept' p.0, p.1, depends-back Ctrl m kept-m p.2)) any)
    condition-back k (reads_dependent_write h) = reads_dependent_write (record {
      load = h.load;
      through = any-back (IsDependentWrite log a b) (IsDependentWrite w (renumbered first a) (renumbered first b))
          (λ m c kept-m p. record {
            between = between-back first a m b kept kept-m kept' p.between;
            store = p.store;
            returns = record { word = p.returns.word; version = p.returns.version };
            depends = elim p.depends [
              | inl d ↦ inl (depends-back Addr m kept-m d)
              | inr d ↦ inr (depends-back DataOf m kept-m d)
            ];
          }) h.through;
    })
    condition-back k (after_dependent_address h) = after_dependent_address (record {
      store = h.store;
      through = any-back (λ m. Between a m b × DependsOn log Addr m a)
          (λ x. Between (renumbered first a) x (renumbered first b) × DependsOn w Addr x (renumbered first a))
          (λ m c kept-m p. (between-back first a m b kept kept-m kept' p.0, depends-back Addr m kept-m p.1)) h.through;
    })

    -- so with each reason
    reason-in : (reason : Reason) → HasReason model log reason a b →
        HasReason model w reason (renumbered first a) (renumbered first b)
    reason-in (Preserved k) h = record {
      from = into a ca kept;
      to = into b cb kept';
      from_memory = h.from_memory;
      to_memory = h.to_memory;
      earlier = earlier-in first a b kept h.earlier;
      condition = condition-in k h.condition;
    }
    reason-in Coherence h = record { first = h.first; second = h.second; word = h.word; versions = h.versions }
    reason-in ReadsFrom h = record {
      load = h.load;
      is_writer = writer-in a b.word b.read kept h.is_writer;
      not_earlier = λ earlier. h.not_earlier (earlier-back first a b kept kept' earlier);
    }
    reason-in FromRead h = record {
      load = h.load;
      store = h.store;
      other = λ same. h.other (same-back same);
      word = h.word;
      versions = h.versions;
    }
      where
        same-back : (renumbered first a).id ≡ (renumbered first b).id → a.id ≡ b.id
        same-back same =
            let hart : a.id.hart ≡ b.id.hart = ap (λ (i : Id). i.hart) same in
            let seq : a.id.seq - first a.id.hart ≡ b.id.seq - first b.id.hart = ap (λ (i : Id). i.seq) same in
            let base = ap first hart in
            let number : a.id.seq ≡ b.id.seq = omega (arith, seq, base, kept, kept') in
            grind arith
    reason-in AtomicIn h =
        let kept-lr = pairs b cb kept' h.lr h.of_log h.paired in
        record {
          lr = renumbered first h.lr;
          of_log = into h.lr h.of_log kept-lr;
          paired = paired-in h.lr b kept-lr kept' h.paired;
          is_writer = writer-in a h.lr.word h.lr.read kept h.is_writer;
        }
    reason-in AtomicOut h =
        let kept-lr = pairs a ca kept h.lr h.of_log h.paired in
        record {
          lr = renumbered first h.lr;
          of_log = into h.lr h.of_log kept-lr;
          paired = paired-in h.lr a kept-lr kept h.paired;
          store = h.store;
          word = h.word;
          other_hart = h.other_hart;
          versions = h.versions;
        }

    reason-back : (reason : Reason) → HasReason model w reason (renumbered first a) (renumbered first b) →
        HasReason model log reason a b
    reason-back (Preserved k) h = record {
      from = ca;
      to = cb;
      from_memory = h.from_memory;
      to_memory = h.to_memory;
      earlier = earlier-back first a b kept kept' h.earlier;
      condition = condition-back k h.condition;
    }
    reason-back Coherence h = record { first = h.first; second = h.second; word = h.word; versions = h.versions }
    reason-back ReadsFrom h = record {
      load = h.load;
      is_writer = writer-back a b.word b.read ca kept h.is_writer;
      not_earlier = λ earlier. h.not_earlier (earlier-in first a b kept earlier);
    }
    reason-back FromRead h = record {
      load = h.load;
      store = h.store;
      other = λ same. h.other (ap (λ (i : Id). record { hart = i.hart; seq = i.seq - first i.hart }) same);
      word = h.word;
      versions = h.versions;
    }
    reason-back AtomicIn h =
        let from = onto h.lr h.of_log in
        let p : Paired w (renumbered first from.0) (renumbered first b) =
        subst (λ (x : Event). Paired w x (renumbered first b)) (sym from.3) h.paired in
        let is : writer w from.0.word from.0.read ≡ Some (renumbered first a) =
        subst (λ (x : Event). writer w x.word x.read ≡ Some (renumbered first a)) (sym from.3) h.is_writer in
        record {
          lr = from.0;
          of_log = from.1;
          paired = paired-back from.0 b from.2 kept' p;
          is_writer = writer-back a from.0.word from.0.read ca kept is;
        }
    reason-back AtomicOut h =
        let from = onto h.lr h.of_log in
        let p : Paired w (renumbered first from.0) (renumbered first a) =
        subst (λ (x : Event). Paired w x (renumbered first a)) (sym from.3) h.paired in
        record {
          lr = from.0;
          of_log = from.1;
          paired = paired-back from.0 a from.2 kept p;
          store = h.store;
          word = subst (λ (x : Event). b.word ≡ x.word) (sym from.3) h.word;
          other_hart = h.other_hart;
          versions = subst (λ (x : Event). x.read < b.wrote) (sym from.3) h.versions;
        }

    -- and so the edges are the same
    pub edge-in : (reason : Reason) → IsEdge model log a.id reason b.id →
        IsEdge model w (renumbered first a).id reason (renumbered first b).id
    edge-in reason edge =
        let is-a : edge.a ≡ a = named-log a edge.a ca edge.from_named in
        let is-b : edge.b ≡ b = named-log b edge.b cb edge.to_named in
        record {
          a = renumbered first a;
          b = renumbered first b;
          from_named = named-in a ca kept;
          to_named = named-in b cb kept';
          from_memory = subst (λ (x : Event). IsMemory x) is-a edge.from_memory;
          to_memory = subst (λ (x : Event). IsMemory x) is-b edge.to_memory;
          why = reason-in reason
              (subst (λ (x : Event). HasReason model log reason a x) is-b
              (subst (λ (x : Event). HasReason model log reason x edge.b) is-a edge.why));
        }

    pub edge-back : (reason : Reason) → IsEdge model w (renumbered first a).id reason (renumbered first b).id →
        IsEdge model log a.id reason b.id
    edge-back reason edge =
        let is-a : edge.a ≡ renumbered first a = named-window a edge.a ca kept edge.from_named in
        let is-b : edge.b ≡ renumbered first b = named-window b edge.b cb kept' edge.to_named in
        record {
          a = a;
          b = b;
          from_named = known.own a ca;
          to_named = known.own b cb;
          from_memory = subst (λ (x : Event). IsMemory x) is-a edge.from_memory;
          to_memory = subst (λ (x : Event). IsMemory x) is-b edge.to_memory;
          why = reason-back reason
              (subst (λ (x : Event). HasReason model w reason (renumbered first a) x) is-b
              (subst (λ (x : Event). HasReason model w reason x edge.b) is-a edge.why));
        }

  -- stale pairs stay, and none comes
  module _ (a b : Event) (ca : Contains log a) (cb : Contains log b) (kept : IsKept first a) (kept' : IsKept first b)
    where
      pub stale-in : IsStale log a.id b.id → IsStale w (renumbered first a).id (renumbered first b).id
      stale-in stale =
          let is-a : stale.a ≡ a = named-log a stale.a ca stale.load_named in
          let is-b : stale.b ≡ b = named-log b stale.b cb stale.store_named in
          record {
            a = renumbered first a;
            b = renumbered first b;
            load_named = named-in a ca kept;
            store_named = named-in b cb kept';
            is_load = subst (λ (x : Event). IsLoad x) is-a stale.is_load;
            is_store = subst (λ (x : Event). IsStore x) is-b stale.is_store;
            word = ap (λ (x : Event). x.word) (sym is-b) ∙ stale.word ∙ ap (λ (x : Event). x.word) is-a;
            earlier = earlier-in first b a kept'
                (subst (λ (x : Event). Earlier x a) is-b (subst (λ (x : Event). Earlier stale.b x) is-a stale.earlier));
            versions = subst (λ (x : Event). a.read < x.wrote) is-b
                (subst (λ (x : Event). x.read < stale.b.wrote) is-a stale.versions);
          }

      pub stale-back : IsStale w (renumbered first a).id (renumbered first b).id → IsStale log a.id b.id
      stale-back stale =
          let is-a : stale.a ≡ renumbered first a = named-window a stale.a ca kept stale.load_named in
          let is-b : stale.b ≡ renumbered first b = named-window b stale.b cb kept' stale.store_named in
          record {
            a = a;
            b = b;
            load_named = known.own a ca;
            store_named = known.own b cb;
            is_load = subst (λ (x : Event). IsLoad x) is-a stale.is_load;
            is_store = subst (λ (x : Event). IsStore x) is-b stale.is_store;
            word = ap (λ (x : Event). x.word) (sym is-b) ∙ stale.word ∙ ap (λ (x : Event). x.word) is-a;
            earlier = earlier-back first b a kept' kept
                (subst (λ (x : Event). Earlier x (renumbered first a)) is-b
                (subst (λ (x : Event). Earlier stale.b x) is-a stale.earlier));
            versions = subst (λ (x : Event). a.read < x.wrote) is-b
                (subst (λ (x : Event). x.read < stale.b.wrote) is-a stale.versions);
          }

-- an event that is kept is renumbered in the window
pub into-window : (first : ℕ → ℕ) (log : List Entry) (a : Event) → Contains (events log) a → IsKept first a →
    Contains (events (window first log)) (renumbered first a)
into-window first log a c kept =
    let found = Contains-map (λ (x : Entry). x.event) log a c in
    let low : IsKept first found.0.event = subst (IsKept first) (sym found.2) kept in
    let there = Contains-mapped (λ (x : Entry). record x { event = renumbered first x.event })
    (filter (λ (x : Entry). nat_le (first x.event.id.hart) x.event.id.seq) log) found.0
    (Contains-filter (λ (x : Entry). nat_le (first x.event.id.hart) x.event.id.seq) log found.0 found.1
    (le-leb (first found.0.event.id.hart) found.0.event.id.seq low)) in
    subst (λ (y : Event). Contains (events (window first log)) (renumbered first y)) found.2
    (Contains-mapped (λ (x : Entry). x.event) (window first log)
    (record found.0 { event = renumbered first found.0.event }) there)

-- and each event of the window is one of these
pub onto-window : (first : ℕ → ℕ) (log : List Entry) (x : Event) → Contains (events (window first log)) x →
    (a : Event) × Contains (events log) a × IsKept first a × (renumbered first a ≡ x)
onto-window first log x c =
    let entry = Contains-map (λ (y : Entry). y.event) (window first log) x c in
    let from = Contains-map (λ (y : Entry). record y { event = renumbered first y.event })
    (filter (λ (y : Entry). nat_le (first y.event.id.hart) y.event.id.seq) log) entry.0 entry.1 in
    let low : nat_le (first from.0.event.id.hart) from.0.event.id.seq ≡ true =
    All-contains (λ (y : Entry). nat_le (first y.event.id.hart) y.event.id.seq ≡ true)
    (filter (λ (y : Entry). nat_le (first y.event.id.hart) y.event.id.seq) log) from.0
    (filter_passes (λ (y : Entry). nat_le (first y.event.id.hart) y.event.id.seq) log) from.1 in
    let of_log = Contains-unfilter (λ (y : Entry). nat_le (first y.event.id.hart) y.event.id.seq) log from.0 from.1 in (
      from.0.event,
      Contains-mapped (λ (y : Entry). y.event) log from.0 of_log,
      leb-true (first from.0.event.id.hart) from.0.event.id.seq low,
      ap (λ (y : Entry). y.event) from.2 ∙ entry.2,
    )
