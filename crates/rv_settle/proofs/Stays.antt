-- What stays as a log goes on: edges, paths of them, operations that stand before what comes, and
-- what is settled.
use Rattle.std.proofs.Common.{◌++◌, ◌∷◌, ◌≡◌, ◌⊎◌, [], IsTrue, List, inl, inr, ℕ}
use Rattle.std.proofs.lemmas.List.Elements.{Contains-append_left}
use Rattle.rv_cover.specs.Paths.{Path, more, one}
use Rattle.rv_event.proofs.Growing.{IsEdge-grows}
use Rattle.rv_event.proofs.Indexed.{IndexedWithin, SoundWithin, indexed-push}
use Rattle.rv_event.proofs.Settled.{grows-push}
use Rattle.rv_event.specs.Log.{Earlier}
use Rattle.rv_event.specs.Relations.{DependsOn, fence_orders}
use Rattle.rv_event.specs.declared.event.DepKind.TheVariants.{Addr, Ctrl}
use Rattle.rv_event.specs.declared.event.Event.{Event}
use Rattle.rv_event.specs.declared.event.Id.{Id}
use Rattle.rv_event.specs.declared.event.Op.TheVariants.{Branch, Load, Store}
use Rattle.rv_event.specs.declared.memory_model.MemoryModel.{MemoryModel}
use Rattle.rv_settle.proofs.Bars.{Any-longer, depends}
use Rattle.rv_settle.specs.Bars.{IsBeforeLoads, IsBeforeStores, acquired_loads, acquired_stores}
use Rattle.rv_settle.specs.Bars.{addressed, branched}
use Rattle.rv_settle.specs.Bars.{fenced_loads, fenced_stores, released}
use Rattle.rv_settle.specs.Settled.{AnyEdge, IsSettledFor, LeadsTo}

module _ {limit : ℕ} (model : MemoryModel) (log : List Event) (e : Event) (known : IndexedWithin limit log)
    (sound : SoundWithin limit log e) where
  -- an edge stays
  edge-stays : (i j : Id) → AnyEdge model log i j → AnyEdge model (log ++ e ∷ []) i j
  edge-stays i j edge = (
    edge.0,
    IsEdge-grows model log (log ++ e ∷ []) (grows-push log e) known (indexed-push log e known sound) i j edge.0 edge.1,
  )

  -- and so does a path of edges
  path-stays : (i j : Id) → Path Id (AnyEdge model log) i j → Path Id (AnyEdge model (log ++ e ∷ [])) i j
  path-stays i j (one edge) = one (edge-stays i j edge)
  path-stays i j (more {j = k} edge rest) = more (edge-stays i k edge) (path-stays k j rest)

  -- what leads to an operation leads to it in the longer log
  pub leads-stays : (p m : Event) → (p.id ≡ m.id) ⊎ Path Id (AnyEdge model log) p.id m.id →
      (p.id ≡ m.id) ⊎ Path Id (AnyEdge model (log ++ e ∷ [])) p.id m.id
  leads-stays p m (inl same) = inl same
  leads-stays p m (inr path) = inr (path-stays p.id m.id path)

  -- what stands before later loads goes on to do so
  loads-stay : (m : Event) → IsBeforeLoads model log m → IsBeforeLoads model (log ++ e ∷ []) m
  loads-stay m (acquired_loads a) = acquired_loads a
  loads-stay m (fenced_loads any) =
      fenced_loads (Any-longer log (e ∷ []) (λ f. Earlier m f × IsTrue (fence_orders f.op m.op Load))
      (λ f. Earlier m f × IsTrue (fence_orders f.op m.op Load)) (λ f c p. p) any)

  -- and so with stores
  stores-stay : (m : Event) → IsBeforeStores model log m → IsBeforeStores model (log ++ e ∷ []) m
  stores-stay m (acquired_stores a) = acquired_stores a
  stores-stay m (fenced_stores any) =
      fenced_stores (Any-longer log (e ∷ []) (λ f. Earlier m f × IsTrue (fence_orders f.op m.op Store))
      (λ f. Earlier m f × IsTrue (fence_orders f.op m.op Store)) (λ f c p. p) any)
  stores-stay m (branched any) =
      branched (Any-longer log (e ∷ []) (λ f. Earlier m f × (f.op ≡ Branch) × DependsOn log Ctrl f m)
      (λ f. Earlier m f × (f.op ≡ Branch) × DependsOn (log ++ e ∷ []) Ctrl f m)
      (λ f c p. (p.0, p.1, depends model log e known sound Ctrl f m p.2)) any)
  stores-stay m (addressed any) =
      addressed (Any-longer log (e ∷ []) (λ f. Earlier m f × DependsOn log Addr f m)
      (λ f. Earlier m f × DependsOn (log ++ e ∷ []) Addr f m)
      (λ f c p. (p.0, depends model log e known sound Addr f m p.1)) any)
  stores-stay m (released ztso) = released ztso

  -- an operation that leads to one goes on to do so
  LeadsTo-stays : (hart : ℕ) (p : Event) (Old New : Event → Type 0) → ((m : Event) → Old m → New m) →
      LeadsTo model log hart Old p → LeadsTo model (log ++ e ∷ []) hart New p
  LeadsTo-stays hart p Old New map l = record {
    m = l.m;
    of_log = Contains-append_left log (e ∷ []) l.m l.of_log;
    memory = l.memory;
    own = l.own;
    leads = leads-stays p l.m l.leads;
    stands = map l.m l.stands;
  }

  -- what is settled for a hart stays so
  pub settled-stays : (hart : ℕ) (p : Event) → IsSettledFor model log hart p →
      IsSettledFor model (log ++ e ∷ []) hart p
  settled-stays hart p s = record {
    loads = LeadsTo-stays hart p (IsBeforeLoads model log) (IsBeforeLoads model (log ++ e ∷ [])) loads-stay
        s.loads;
    stores = LeadsTo-stays hart p (IsBeforeStores model log) (IsBeforeStores model (log ++ e ∷ [])) stores-stay
        s.stores;
  }
