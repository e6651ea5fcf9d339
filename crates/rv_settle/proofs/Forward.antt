-- Whatever comes before a settled operation would come before itself.
use Rattle.std.proofs.Common.{ℕ, ◌++◌, ◌∷◌, ◌≡◌, ◌⊎◌, ◌<◌, ◌≤◌, [], Contains, List, arith, inl, inr}
use Rattle.std.proofs.Common.{refl, subst, sym}
use Rattle.std.proofs.Common.{rules, ◌∙◌, Some}
use Rattle.std.proofs.lemmas.Option.{same_Some}
use Rattle.std.proofs.lemmas.List.Elements.{Contains-append_left, Contains-append_right}
use Rattle.rv_cert.proofs.Forward.{edge-forward}
use Rattle.rv_cover.specs.Paths.{AnyRule, Path, more, one}
use Rattle.rv_event.proofs.Indexed.{IndexedWithin, SoundWithin, indexed-push}
use Rattle.rv_event.proofs.Names.{Contains-here}
use Rattle.rv_event.specs.Edges.{IsEdge}
use Rattle.rv_event.specs.Log.{named}
use Rattle.rv_event.specs.Operations.{IsLoad, IsMemory, IsStore}
use Rattle.rv_event.specs.Orders.{Lawful, place}
use Rattle.rv_event.specs.declared.event.Event.{Event}
use Rattle.rv_event.specs.declared.event.Id.{Id}
use Rattle.rv_event.specs.declared.memory_model.MemoryModel.{MemoryModel}
use Rattle.rv_event.specs.declared.reason.Reason.{Reason}
use Rattle.rv_event.specs.declared.reason.Reason.TheVariants.{Preserved}
use Rattle.rv_settle.proofs.Bars.{before-load, before-store}
use Rattle.rv_settle.proofs.Stays.{leads-stays}
use Rattle.rv_settle.specs.Bars.{IsBeforeLoads, IsBeforeStores}
use Rattle.rv_settle.specs.Settled.{AnyEdge, IsSettledFor, LeadsTo}

-- a memory operation loads or stores
load_or_store : (e : Event) → IsMemory e → IsLoad e ⊎ IsStore e
load_or_store e memory = search (rules)

module _ (model : MemoryModel) (log : List Event) (order : List Id) (lawful : Lawful model log order) where
  -- a path of edges goes forward in a lawful order
  path-forward : (i j : Id) → Path Id (AnyEdge model log) i j → place order i < place order j
  path-forward i j (one e) = edge-forward model log order lawful i j e.0 e.1
  path-forward i j (more {j = k} e rest) =
      let first = edge-forward model log order lawful i k e.0 e.1 in
      let others = path-forward k j rest in
      omega arith

  -- what leads to an operation stands no later
  pub leads-forward : (p m : Event) → (p.id ≡ m.id) ⊎ Path Id (AnyEdge model log) p.id m.id →
      place order p.id ≤ place order m.id
  leads-forward p m (inl same) = rw same (omega arith)
  leads-forward p m (inr path) = let before = path-forward p.id m.id path in omega arith

module _ {limit : ℕ} (model : MemoryModel) (log : List Event) (e : Event) (known : IndexedWithin limit log)
    (sound : SoundWithin limit log e)
    (order : List Id) (lawful : Lawful model (log ++ e ∷ []) order) where
  new : List Event
  new = log ++ e ∷ []

  known' : IndexedWithin limit new
  unfolding new
  known' = indexed-push log e known sound

  -- an operation that a rule orders before the new one stands before it
  rule-forward : (m : Event) → Contains log m → AnyRule model (log ++ e ∷ []) m e → place order m.id < place order e.id
  unfolding new
  rule-forward m c (k, rule) =
      edge-forward model (log ++ e ∷ []) order lawful m.id e.id (Preserved k) (record {
        a = m;
        b = e;
        from_named = known'.own m (Contains-append_left log (e ∷ []) m c);
        to_named = known'.own e (Contains-append_right log (e ∷ []) e (Contains-here e [] e refl));
        from_memory = rule.from_memory;
        to_memory = rule.to_memory;
        why = rule;
      })

  -- a new event that came before a settled operation would come before itself
  pub no_way_back : (p : Event) (reason : Reason) → IsSettledFor model log e.id.hart p →
      IsEdge model (log ++ e ∷ []) e.id reason p.id → ⊥
  unfolding new
  no_way_back p reason settled edge = go (load_or_store e memory)
    where
      own : named (log ++ e ∷ []) e.id ≡ Some e
      own = known'.own e (Contains-append_right log (e ∷ []) e (Contains-here e [] e refl))

      memory : IsMemory e
      memory = subst IsMemory (same_Some edge.a e (sym edge.from_named ∙ own)) edge.from_memory

      back : place order e.id < place order p.id
      back = edge-forward model (log ++ e ∷ []) order lawful e.id p.id reason edge

      through_load : IsLoad e → LeadsTo model log e.id.hart (IsBeforeLoads model log) p → ⊥
      through_load load l =
          let ahead = leads-forward model (log ++ e ∷ []) order lawful p l.m
          (leads-stays model log e known sound p l.m l.leads) in
          let last = rule-forward l.m l.of_log
          (before-load model log e known sound l.m l.of_log l.memory l.own memory load l.stands) in
          let first = back in
          omega arith

      through_store : IsStore e → LeadsTo model log e.id.hart (IsBeforeStores model log) p → ⊥
      through_store store l =
          let ahead = leads-forward model (log ++ e ∷ []) order lawful p l.m
          (leads-stays model log e known sound p l.m l.leads) in
          let last = rule-forward l.m l.of_log
          (before-store model log e known sound l.m l.of_log l.memory l.own memory store l.stands) in
          let first = back in
          omega arith

      go : IsLoad e ⊎ IsStore e → ⊥
      go (inl load) = through_load load settled.loads
      go (inr store) = through_store store settled.stores
