-- What stays when a log grows: names, what stands between two old events, writers, rules and edges.
use Rattle.rv_event.proofs.Common.{rules, MemoryModel, ◌≡◌, ℕ, ◌<◌, Bool, true, false, ◌==◌, cond, List, [], ◌∷◌}
use Rattle.rv_event.proofs.Common.{◌++◌, map, length, filter, Contains, All, Any, find, Some, refl, sym, ap, ◌∙◌}
use Rattle.rv_event.proofs.Common.{arith, subst, slice_index_or, IsFalse, IsTrue, ◌≢◌, and_parts, false≢true}
use Rattle.rv_event.proofs.Common.{same_Some, map-append, All-contains, Contains-get_or, IsStore, is_exclusive}
use Rattle.rv_event.proofs.Common.{same_id, named, of_hart, writer, events, Earlier, Between, Paired}
use Rattle.rv_event.proofs.Common.{fence_orders, Condition, overlapping_store, different_reads}
use Rattle.rv_event.proofs.Common.{reads_atomic_write, fenced, after_acquire, before_release, both_rcsc, paired}
use Rattle.rv_event.proofs.Common.{address, data_of, control, reads_dependent_write, after_dependent_address}
use Rattle.rv_event.proofs.Common.{Rule, HasReason, IsEdge, IsStale, entries_of, Continues, Id, Event, Entry}
use Rattle.rv_event.proofs.Common.{Reason, Preserved, Coherence, ReadsFrom, FromRead, AtomicIn, AtomicOut}
use Rattle.rv_event.proofs.Common.{inl, inr, Addr, Behind, Ctrl, DataOf, DependsOn, IsDependentWrite, Lists}
use Rattle.rv_event.specs.Relations.{listed, through}
use Rattle.rv_event.specs.declared.event.DepKind.{DepKind}
use Rattle.rv_event.proofs.Names.{named-is, writer-is}
use Rattle.rv_event.proofs.Indexed.{IndexedWithin, find-append_some}

-- a search looks only where its test can pass
pub find-filter : {X : Type 0} (p q : X → Bool) → ((x : X) → p x ≡ true → q x ≡ true) → (xs : List X) →
    find p xs ≡ find p (filter q xs)
find-filter p q only [] = refl
find-filter {X} p q only (x ∷ xs) = go (p x) refl (q x) refl (find-filter p q only xs)
  where
    go : (b : Bool) → p x ≡ b → (d : Bool) → q x ≡ d → find p xs ≡ find p (filter q xs) →
        cond b (Some x) (find p xs) ≡ find p (cond d (x ∷ filter q xs) (filter q xs))
    go true f true g again = rw f
    go true f false g again = absurd (false≢true (sym g ∙ only x f))
    go false f true g again = rw f again
    go false f false g again = again

-- to filter what was mapped is to map what was filtered
pub filter-map : {X Y : Type 0} (f : X → Y) (p : Y → Bool) (xs : List X) →
    filter p (map f xs) ≡ map f (filter (λ x. p (f x)) xs)
filter-map f p [] = refl
filter-map {X} {Y} f p (x ∷ xs) = go (p (f x)) (filter-map f p xs)
  where
    go : (b : Bool) → filter p (map f xs) ≡ map f (filter (λ y. p (f y)) xs) → cond b (f x ∷ filter p (map f xs))
        (filter p (map f xs)) ≡ map f (cond b (x ∷ filter (λ y. p (f y)) xs) (filter (λ y. p (f y)) xs))
    go true again = ap (λ (ys : List Y). f x ∷ ys) again
    go false again = again

-- the events of each hart are the first of that hart's in the new log
abbrev pub Grows : List Event → List Event → Type 0
Grows old new = (hart : ℕ) → (rest : List Event) × (of_hart hart new ≡ of_hart hart old ++ rest)

-- a log that continues another has its events, hart by hart
pub grows_from_Continues : (old new : List Entry) → Continues old new → Grows (events old) (events new)
grows_from_Continues old new continues hart =
    let event : Entry → Event = λ x. x.event in
    let p : Event → Bool = λ e. hart == e.id.hart in
    let c = continues hart in (
      events c.0,
      filter-map event p new ∙ ap (map event) c.1 ∙ map-append event (entries_of hart old) c.0 ∙
          ap (λ (ys : List Event). ys ++ events c.0) (sym (filter-map event p old)),
    )

-- an id is looked up among its hart's events
pub named-of_hart : (log : List Event) (i : Id) → named log i ≡ find (λ (e : Event). same_id i e.id)
    (of_hart i.hart log)
named-of_hart log i = search (find-filter, and_parts, rules)

-- an id keeps its event when the log grows
pub named-grows : (old new : List Event) → Grows old new → (i : Id) (e : Event) → named old i ≡ Some e →
    named new i ≡ Some e
named-grows old new grows i e is =
    let g = grows i.hart in
    let p : Event → Bool = λ (x : Event). same_id i x.id in
    named-of_hart new i ∙ ap (find p) g.1 ∙ find-append_some p (of_hart i.hart old) g.0 e
    (sym (named-of_hart old i) ∙ is)

-- what holds of some element holds of one that the list contains
pub Any-contains : {X : Type 0} (P : X → Type 0) (xs : List X) → Any P xs → (x : X) × Contains xs x × P x
Any-contains P xs (k, x, l, e, p) = (x, (k, l, e), p)

-- and the other way round
pub Any-from_contains : {X : Type 0} (P : X → Type 0) (xs : List X) (x : X) → Contains xs x → P x → Any P xs
Any-from_contains P xs x (k, l, e) p = (k, x, l, e, p)

-- what holds of each that the list contains holds of all
pub All-from_contains : {X : Type 0} (P : X → Type 0) (xs : List X) → ((x : X) → Contains xs x → P x) → All P xs
All-from_contains P xs each k d l = each (slice_index_or xs k d) (Contains-get_or xs k d l)

module _ {limit : ℕ} (model : MemoryModel) (old new : List Event) (grows : Grows old new)
    (known : IndexedWithin limit old) (known' : IndexedWithin limit new) where
  -- the old events stay
  pub Contains-grows : (e : Event) → Contains old e → Contains new e
  Contains-grows e c = (named-is new e.id e (named-grows old new grows e.id e (known.own e c))).0

  -- what is earlier than an old event is old
  pub earlier_old : (m b : Event) → Contains old b → Contains new m → Earlier m b → Contains old m
  earlier_old m b cb cm earlier =
      let below : b.id.seq < length (of_hart b.id.hart old) = known.below b cb in
      let seq = earlier.seq in
      let low : m.id.seq < length (of_hart m.id.hart old) = rw earlier.hart (omega arith) in
      let f = known.filled m.id low in
      let same : f.0 ≡ m = same_Some f.0 m (sym (named-grows old new grows m.id f.0 f.1) ∙ known'.own m cm) in
      subst (Contains old) same (named-is old m.id f.0 f.1).0

  -- a version keeps its writer
  pub writer-grows : (word version : ℕ) (w : Event) → writer old word version ≡ Some w →
      writer new word version ≡ Some w
  writer-grows word version w e =
      let is = writer-is old word version w e in
      let new_is : writer new w.word w.wrote ≡ Some w = known'.written w (Contains-grows w is.of_log) is.store in
      rw (is.word, is.version) new_is

  Any-grows : (P : Event → Type 0) → Any P old → Any P new
  Any-grows P any = let a = Any-contains P old any in Any-from_contains P new a.0 (Contains-grows a.0 a.1) a.2

  -- what is behind a carrier stays behind it, and dependencies stay
  Behind-grows : (c a : Event) → Behind old c a → Behind new c a
  Behind-grows c a (listed is l) = listed is l
  Behind-grows c a (through {m = m} is cm l rest) = through is (Contains-grows m cm) l (Behind-grows m a rest)

  Any-grows-by : (P Q : Event → Type 0) → ((m : Event) → P m → Q m) → Any P old → Any Q new
  Any-grows-by P Q map any =
      let f = Any-contains P old any in Any-from_contains Q new f.0 (Contains-grows f.0 f.1) (map f.0 f.2)

  pub DependsOn-grows : (kind : DepKind) (e a : Event) → DependsOn old kind e a → DependsOn new kind e a
  DependsOn-grows kind e a (inl l) = inl l
  DependsOn-grows kind e a (inr any) =
      inr (Any-grows-by (λ m. Lists kind e m × Behind old m a) (λ m. Lists kind e m × Behind new m a)
      (λ m p. (p.0, Behind-grows m a p.1)) any)

  IsDependentWrite-grows : (a b m : Event) → IsDependentWrite old a b m → IsDependentWrite new a b m
  IsDependentWrite-grows a b m h = record {
    between = h.between;
    store = h.store;
    returns = h.returns;
    depends = elim h.depends [
      | inl addr ↦ inl (DependsOn-grows Addr m a addr)
      | inr value ↦ inr (DependsOn-grows DataOf m a value)
    ];
  }

  -- what holds of each old event between two old ones holds of each new one
  All-grows : (a b : Event) → Contains old b → (P : Event → Type 0) → All (λ m. Between a m b → P m) old →
      All (λ m. Between a m b → P m) new
  All-grows a b cb P all = All-from_contains (λ m. Between a m b → P m) new
      (λ m cm between. All-contains (λ m. Between a m b → P m) old m all
      (earlier_old m b cb cm between.before) between)

  -- a pair stays one
  pub Paired-grows : (lr sc : Event) → Contains old sc → Paired old lr sc → Paired new lr sc
  Paired-grows lr sc c p = record {
    is_lr = p.is_lr;
    is_sc = p.is_sc;
    earlier = p.earlier;
    none_between = All-grows lr sc c (λ m. IsFalse (is_exclusive m.op)) p.none_between;
  }

  Condition-grows : (a b : Event) → Contains old b → (k : ℕ) → Condition model old a b k → Condition model new a b k
  Condition-grows a b cb k (overlapping_store h) = overlapping_store h
  Condition-grows a b cb k (different_reads h) =
      different_reads (record {
        first = h.first;
        second = h.second;
        word = h.word;
        versions = h.versions;
        none_between = All-grows a b cb (λ m. IsStore m → m.word ≢ a.word) h.none_between;
      })
  Condition-grows a b cb k (reads_atomic_write h) = reads_atomic_write h
  Condition-grows a b cb k (fenced h) = fenced (Any-grows (λ f. Between a f b × IsTrue (fence_orders f.op a.op b.op)) h)
  Condition-grows a b cb k (after_acquire h) = after_acquire h
  Condition-grows a b cb k (before_release h) = before_release h
  Condition-grows a b cb k (both_rcsc h g) = both_rcsc h g
  Condition-grows a b cb k (paired h) = paired (Paired-grows a b cb h)
  Condition-grows a b cb k (address h) = address (DependsOn-grows Addr b a h)
  Condition-grows a b cb k (data_of h) = data_of (DependsOn-grows DataOf b a h)
  Condition-grows a b cb k (control s h) =
      control s (Any-grows-by _ _ (λ m p. (p.0, p.1, DependsOn-grows Ctrl m a p.2)) h)
  Condition-grows a b cb k (reads_dependent_write h) = reads_dependent_write (record {
    load = h.load;
    through = Any-grows-by _ _ (IsDependentWrite-grows a b) h.through;
  })
  Condition-grows a b cb k (after_dependent_address h) = after_dependent_address (record {
    store = h.store;
    through = Any-grows-by _ _ (λ m p. (p.0, DependsOn-grows Addr m a p.1)) h.through;
  })

  -- a rule that holds stays
  pub Rule-grows : (k : ℕ) (a b : Event) → Rule model old k a b → Rule model new k a b
  Rule-grows k a b h = search (Contains-grows, Condition-grows, rules)

  HasReason-grows : (a b : Event) → Contains old a → Contains old b → (reason : Reason) →
      HasReason model old reason a b → HasReason model new reason a b
  HasReason-grows a b ca cb (Preserved k) h = Rule-grows k a b h
  HasReason-grows a b ca cb Coherence h = h
  HasReason-grows a b ca cb ReadsFrom h =
      record { load = h.load; is_writer = writer-grows b.word b.read a h.is_writer; not_earlier = h.not_earlier }
  HasReason-grows a b ca cb FromRead h = h
  HasReason-grows a b ca cb AtomicIn h = record {
    lr = h.lr;
    of_log = Contains-grows h.lr h.of_log;
    paired = Paired-grows h.lr b cb h.paired;
    is_writer = writer-grows h.lr.word h.lr.read a h.is_writer;
  }
  HasReason-grows a b ca cb AtomicOut h =
      record {
        lr = h.lr;
        of_log = Contains-grows h.lr h.of_log;
        paired = Paired-grows h.lr a ca h.paired;
        store = h.store;
        word = h.word;
        other_hart = h.other_hart;
        versions = h.versions;
      }

  -- an edge stays
  pub IsEdge-grows : (i j : Id) (reason : Reason) → IsEdge model old i reason j → IsEdge model new i reason j
  IsEdge-grows i j reason e = search (named-grows, HasReason-grows, named-is, rules)

  -- a stale pair stays
  pub IsStale-grows : (load store : Id) → IsStale old load store → IsStale new load store
  IsStale-grows load store s = search (named-grows, rules)
