-- The past of a window's cut belongs to the past of the log.
use Rattle.std.proofs.Common.{ℕ, ◌≡◌, ◌≢◌, ◌⊎◌, ◌∙◌, Bool, Contains, IsTrue, List, ap, inl, inr, subst}
use Rattle.std.proofs.Common.{sym}
use Rattle.std.proofs.lemmas.Bool.{cases_lt}
use Rattle.rv_cover.proofs.Covering.{path-map}
use Rattle.rv_cover.specs.Paths.{Path, more, one}
use Rattle.rv_event.proofs.Indexed.{IndexedWithin}
use Rattle.rv_event.proofs.Names.{named-is}
use Rattle.rv_event.specs.Edges.{IsEdge}
use Rattle.rv_event.specs.Log.{Earlier}
use Rattle.rv_event.specs.Operations.{IsMemory}
use Rattle.rv_event.specs.Relations.{DependsOn, fence_orders}
use Rattle.rv_event.specs.declared.event.DepKind.{DepKind}
use Rattle.rv_event.specs.declared.event.DepKind.TheVariants.{Addr, Ctrl}
use Rattle.rv_event.specs.declared.event.Event.{Event}
use Rattle.rv_event.specs.declared.event.Id.{Id}
use Rattle.rv_event.specs.declared.event.Op.TheVariants.{Branch, Carrier, Load, Store}
use Rattle.rv_event.specs.declared.memory_model.MemoryModel.{MemoryModel}
use Rattle.rv_settle.proofs.Decided.{comes-back, of_window}
use Rattle.rv_settle.proofs.Windows.{acquire-back, any-back, depends-back, earlier-back, earlier-in, edge-back, edge-in}
use Rattle.rv_settle.specs.Bars.{IsBeforeLoads, IsBeforeStores, acquired_loads, acquired_stores, addressed, branched}
use Rattle.rv_settle.specs.Bars.{fenced_loads, fenced_stores, released}
use Rattle.rv_settle.specs.Cuts.{IsCut}
use Rattle.rv_settle.specs.Settled.{AnyEdge, IsSettled, LeadsTo}
use Rattle.rv_settle.specs.Windows.{AreBoth, IsBelow, IsKept, KeepsPairs, renumbered}

-- a path whose steps are those of renamed places leads from the one renamed to the other
path-along : (X : Type 0) (Step : X → X → Type 0) (g : X → X) (i j : X) → Path X (λ k l. Step (g k) (g l)) i j →
    Path X Step (g i) (g j)
path-along X Step g i j (one s) = one s
path-along X Step g i j (more {j = m} s p) = more s (path-along X Step g m j p)

module _ {limit other : ℕ} (model : MemoryModel) (log : List Event) (w : List Event) (first : ℕ → ℕ)
    (known : IndexedWithin limit log) (known' : IndexedWithin other w)
    (into : (a : Event) → Contains log a → IsKept first a → Contains w (renumbered first a))
    (onto : (x : Event) → Contains w x → (a : Event) × Contains log a × IsKept first a × (renumbered first a ≡ x))
    (plain : (a : Event) → Contains log a → a.op ≢ Carrier) (pairs : KeepsPairs first log) where
  -- an edge of the window is one of the log
  edge-of : (i j : Id) → AnyEdge model w i j → AnyEdge model log (of_window first i) (of_window first j)
  edge-of i j (reason, edge) =
      let from = named-is w i edge.a edge.from_named in
      let to = named-is w j edge.b edge.to_named in
      let a = onto edge.a from.0 in
      let b = onto edge.b to.0 in
      let is-a : i ≡ (renumbered first a.0).id = from.1 ∙ sym (ap (λ (x : Event). x.id) a.3) in
      let is-b : j ≡ (renumbered first b.0).id = to.1 ∙ sym (ap (λ (x : Event). x.id) b.3) in
      let there : IsEdge model w (renumbered first a.0).id reason (renumbered first b.0).id =
      subst (λ (k : Id). IsEdge model w k reason (renumbered first b.0).id) is-a
      (subst (λ (k : Id). IsEdge model w i reason k) is-b edge) in
      let old = edge-back log w first known known' into onto model plain pairs a.0 b.0 a.1 b.1 a.2 b.2 reason there in
      let back-a : of_window first i ≡ a.0.id = ap (of_window first) is-a ∙ comes-back first a.0 a.2 in
      let back-b : of_window first j ≡ b.0.id = ap (of_window first) is-b ∙ comes-back first b.0 b.2 in (
        reason,
        subst (λ (k : Id). IsEdge model log k reason (of_window first j)) (sym back-a)
            (subst (λ (k : Id). IsEdge model log a.0.id reason k) (sym back-b) old),
      )

  path-of : (i j : Id) → Path Id (AnyEdge model w) i j →
      Path Id (AnyEdge model log) (of_window first i) (of_window first j)
  path-of i j path =
      path-along Id (AnyEdge model log) (of_window first) i j
      (path-map Id (AnyEdge model w) (λ k l. AnyEdge model log (of_window first k) (of_window first l)) edge-of i j
      path)

  module _ (m : Event) (cm : Contains log m) (kept : IsKept first m) where
    depends : (kind : DepKind) (f : Event) → IsKept first f →
        DependsOn w kind (renumbered first f) (renumbered first m) → DependsOn log kind f m
    depends kind f kept-f d =
        depends-back log w first known known' into onto model plain pairs m m cm cm kept kept kind f kept-f d

    -- what stands before later operations in the window stands so in the log
    loads-of : IsBeforeLoads model w (renumbered first m) → IsBeforeLoads model log m
    loads-of (acquired_loads a) = acquired_loads (acquire-back model first m a)
    loads-of (fenced_loads any) =
        fenced_loads (any-back log w first known known' into onto
        (λ f. Earlier m f × IsTrue (fence_orders f.op m.op Load))
        (λ x. Earlier (renumbered first m) x × IsTrue (fence_orders x.op m.op Load))
        (λ f c kept-f p. (earlier-back first m f kept kept-f p.0, p.1)) any)

    stores-of : IsBeforeStores model w (renumbered first m) → IsBeforeStores model log m
    stores-of (acquired_stores a) = acquired_stores (acquire-back model first m a)
    stores-of (fenced_stores any) =
        fenced_stores (any-back log w first known known' into onto
        (λ f. Earlier m f × IsTrue (fence_orders f.op m.op Store))
        (λ x. Earlier (renumbered first m) x × IsTrue (fence_orders x.op m.op Store))
        (λ f c kept-f p. (earlier-back first m f kept kept-f p.0, p.1)) any)
    stores-of (branched any) =
        branched (any-back log w first known known' into onto
        (λ f. Earlier m f × (f.op ≡ Branch) × DependsOn log Ctrl f m)
        (λ x. Earlier (renumbered first m) x × (x.op ≡ Branch) × DependsOn w Ctrl x (renumbered first m))
        (λ f c kept-f p. (earlier-back first m f kept kept-f p.0, p.1, depends Ctrl f kept-f p.2)) any)
    stores-of (addressed any) =
        addressed (any-back log w first known known' into onto
        (λ f. Earlier m f × DependsOn log Addr f m)
        (λ x. Earlier (renumbered first m) x × DependsOn w Addr x (renumbered first m))
        (λ f c kept-f p. (earlier-back first m f kept kept-f p.0, depends Addr f kept-f p.1)) any)
    stores-of (released ztso) = released ztso

  -- an operation that leads to one in the window leads to one in the log
  leads-of : (hart : ℕ) (p : Event) → IsKept first p → (Old New : Event → Type 0) →
      ((m : Event) → Contains log m → IsKept first m → Old (renumbered first m) → New m) →
      LeadsTo model w hart Old (renumbered first p) → LeadsTo model log hart New p
  leads-of hart p kept Old New over l =
      let from = onto l.m l.of_log in
      let is : l.m.id ≡ (renumbered first from.0).id = sym (ap (λ (x : Event). x.id) from.3) in
      let back : of_window first l.m.id ≡ from.0.id = ap (of_window first) is ∙ comes-back first from.0 from.2 in
      let own : of_window first (renumbered first p).id ≡ p.id = comes-back first p kept in
      record {
        m = from.0;
        of_log = from.1;
        memory = subst (λ (x : Event). IsMemory x) (sym from.3) l.memory;
        own = ap (λ (x : Event). x.id.hart) from.3 ∙ l.own;
        leads = elim l.leads [
          | inl same ↦ inl (sym own ∙ ap (of_window first) same ∙ back)
          | inr path ↦ inr (subst (λ (k : Id). Path Id (AnyEdge model log) k from.0.id) own
              (subst (λ (k : Id). Path Id (AnyEdge model log) (of_window first (renumbered first p).id) k) back
              (path-of (renumbered first p).id l.m.id path)))
        ];
        stands = over from.0 from.1 from.2 (subst Old (sym from.3) l.stands);
      }

  settled-of : (active : List ℕ) (p : Event) → IsKept first p → IsSettled model w active (renumbered first p) →
      IsSettled model log active p
  settled-of active p kept settled hart is_active =
      let s = settled hart is_active in
      record {
        loads = leads-of hart p kept (IsBeforeLoads model w) (IsBeforeLoads model log)
            (λ m c kept-m stands. loads-of m c kept-m stands) s.loads;
        stores = leads-of hart p kept (IsBeforeStores model w) (IsBeforeStores model log)
            (λ m c kept-m stands. stores-of m c kept-m stands) s.stores;
      }

  module _ (active : List ℕ) (past more' both : Event → Bool) (cut : IsCut model log active past)
      (below : IsBelow log past first) (cut' : IsCut model w active more')
      (are : AreBoth first log past more' both) where
    -- an event of the log is of the past, or is kept
    part : (a : Event) → Contains log a → IsTrue (past a) ⊎ IsKept first a
    part a c = elim (cases_lt a.id.seq (first a.id.hart)) [
      | inl low ↦ inl ((below a c).1 low)
      | inr high ↦ inr high
    ]

    -- so both pasts are that of a cut
    pub composed : IsCut model log active both
    composed = record {
      of_log = λ p gone. elim ((are p).0 gone) [
        | inl old ↦ cut.of_log p old
        | inr new ↦ new.0
      ];
      begins = λ a p c gone earlier. (are a).1 (elim ((are p).0 gone) [
        | inl old ↦ inl (cut.begins a p c old earlier)
        | inr new ↦ elim (part a c) [
          | inl old ↦ inl old
          | inr kept ↦ inr (
            c,
            kept,
            cut'.begins (renumbered first a) (renumbered first p) (into a c kept) new.2
                (earlier-in first a p kept earlier),
          )
        ]
      ]);
      closed = λ a p c gone edge. (are a).1 (elim ((are p).0 gone) [
        | inl old ↦ inl (cut.closed a p c old edge)
        | inr new ↦ elim (part a c) [
          | inl old ↦ inl old
          | inr kept ↦ inr (
            c,
            kept,
            cut'.closed (renumbered first a) (renumbered first p) (into a c kept) new.2 (
              edge.0,
              edge-in log w first known known' into onto model plain pairs a p c new.0 kept new.1 edge.0
                  edge.1,
            ),
          )
        ]
      ]);
      settled = λ p gone memory. elim ((are p).0 gone) [
        | inl old ↦ cut.settled p old memory
        | inr new ↦ settled-of active p new.1 (cut'.settled (renumbered first p) new.2 memory)
      ];
    }
