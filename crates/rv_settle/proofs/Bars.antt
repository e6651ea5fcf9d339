-- An operation that stands before what comes is ordered before a new event by a rule.
use Rattle.std.proofs.Common.{◌≡◌, ◌++◌, ◌∷◌, ◌∙◌, ◌<◌, [], Any, Contains, IsTrue, List, arith}
use Rattle.std.proofs.Common.{length, refl, subst}
use Rattle.std.proofs.Common.{sym, ℕ}
use Rattle.std.proofs.lemmas.Grind.{common_steps}
use Rattle.std.proofs.lemmas.List.Elements.{Contains-append_left, Contains-append_right}
use Rattle.rv_cover.specs.Paths.{AnyRule}
use Rattle.rv_event.proofs.Growing.{Any-contains, Any-from_contains, DependsOn-grows}
use Rattle.rv_event.proofs.Indexed.{IndexedWithin, SoundWithin, indexed-push}
use Rattle.rv_event.proofs.Names.{Contains-here}
use Rattle.rv_event.proofs.Settled.{grows-push}
use Rattle.rv_event.specs.Annotations.{IsRelease}
use Rattle.rv_event.specs.Log.{Between, Earlier, of_hart}
use Rattle.rv_event.specs.Operations.{IsLoad, IsMemory, IsStore, is_load, is_store}
use Rattle.rv_event.specs.Preserved.{Condition, after_acquire, after_dependent_address}
use Rattle.rv_event.specs.Preserved.{before_release, control, fenced}
use Rattle.rv_event.specs.Relations.{DependsOn, fence_orders}
use Rattle.rv_event.specs.declared.event.DepKind.{DepKind}
use Rattle.rv_event.specs.declared.event.DepKind.TheVariants.{Addr, Ctrl}
use Rattle.rv_event.specs.declared.event.Event.{Event}
use Rattle.rv_event.specs.declared.event.Op.{Op}
use Rattle.rv_event.specs.declared.event.Op.TheVariants.{Branch, Load, Store}
use Rattle.rv_event.specs.declared.memory_model.MemoryModel.{MemoryModel}
use Rattle.rv_event.specs.declared.memory_model.MemoryModel.TheVariants.{Ztso}
use Rattle.rv_settle.specs.Bars.{IsBeforeLoads, IsBeforeStores, acquired_loads, acquired_stores}
use Rattle.rv_settle.specs.Bars.{addressed, branched}
use Rattle.rv_settle.specs.Bars.{fenced_loads, fenced_stores, released}

-- what a fence orders before a load, it orders before each operation that loads
loads-alike : (f a b : Op) → IsTrue (is_load b) → IsTrue (fence_orders f a Load) → IsTrue (fence_orders f a b)
loads-alike f a b load orders = grind (arith, common_steps)

-- and so with stores
stores-alike : (f a b : Op) → IsTrue (is_store b) → IsTrue (fence_orders f a Store) → IsTrue (fence_orders f a b)
stores-alike f a b store orders = grind (arith, common_steps)

-- under Ztso a store has a release annotation
store-releases : (e : Event) → IsStore e → IsRelease Ztso e
store-releases e store = grind (arith, common_steps)

module _ (log more : List Event) where
  -- what holds of an event of the log holds of one of the longer log
  pub Any-longer : (P Q : Event → Type 0) → ((f : Event) → Contains log f → P f → Q f) → Any P log → Any Q (log ++ more)
  Any-longer P Q map any =
      let f = Any-contains P log any in
      Any-from_contains Q (log ++ more) f.0 (Contains-append_left log more f.0 f.1) (map f.0 f.1 f.2)

module _ {limit : ℕ} (model : MemoryModel) (log : List Event) (e : Event) (known : IndexedWithin limit log)
    (sound : SoundWithin limit log e) where
  -- a dependency stays one
  pub depends : (kind : DepKind) (f m : Event) → DependsOn log kind f m → DependsOn (log ++ e ∷ []) kind f m
  depends kind f m d =
      DependsOn-grows model log (log ++ e ∷ []) (grows-push log e) known (indexed-push log e known sound) kind f m d

  -- each event of its hart is earlier than the new event
  pub earlier-new : (a : Event) → Contains log a → a.id.hart ≡ e.id.hart → Earlier a e
  earlier-new a c own = record {
    hart = own;
    seq =
        let below = subst (λ (h : ℕ). a.id.seq < length (of_hart h log)) own (known.below a c) in
        omega (arith, below, sound.seq);
  }

  -- a rule whose condition holds orders an old operation before the new one
  ordered : (m : Event) → Contains log m → IsMemory m → m.id.hart ≡ e.id.hart → IsMemory e → (k : ℕ) →
      Condition model (log ++ e ∷ []) m e k → AnyRule model (log ++ e ∷ []) m e
  ordered m c memory own is k condition = (
    k,
    record {
      from = Contains-append_left log (e ∷ []) m c;
      to = Contains-append_right log (e ∷ []) e (Contains-here e [] e refl);
      from_memory = memory;
      to_memory = is;
      earlier = earlier-new m c own;
      condition = condition;
    },
  )

  -- one that stands before loads comes before a new load
  pub before-load : (m : Event) → Contains log m → IsMemory m → m.id.hart ≡ e.id.hart → IsMemory e → IsLoad e →
      IsBeforeLoads model log m → AnyRule model (log ++ e ∷ []) m e
  before-load m c memory own is load (acquired_loads a) = ordered m c memory own is 5 (after_acquire a)
  before-load m c memory own is load (fenced_loads any) =
      ordered m c memory own is 4 (fenced (Any-longer log (e ∷ [])
      (λ f. Earlier m f × IsTrue (fence_orders f.op m.op Load))
      (λ f. Between m f e × IsTrue (fence_orders f.op m.op e.op))
      (λ f cf p. (
        record { after = p.0; before = earlier-new f cf (sym p.0.hart ∙ own) },
        loads-alike f.op m.op e.op load p.1,
      )) any))

  -- and one that stands before stores comes before a new store
  pub before-store : (m : Event) → Contains log m → IsMemory m → m.id.hart ≡ e.id.hart → IsMemory e → IsStore e →
      IsBeforeStores model log m → AnyRule model (log ++ e ∷ []) m e
  before-store m c memory own is store (acquired_stores a) = ordered m c memory own is 5 (after_acquire a)
  before-store m c memory own is store (fenced_stores any) =
      ordered m c memory own is 4 (fenced (Any-longer log (e ∷ [])
      (λ f. Earlier m f × IsTrue (fence_orders f.op m.op Store))
      (λ f. Between m f e × IsTrue (fence_orders f.op m.op e.op))
      (λ f cf p. (
        record { after = p.0; before = earlier-new f cf (sym p.0.hart ∙ own) },
        stores-alike f.op m.op e.op store p.1,
      )) any))
  before-store m c memory own is store (branched any) =
      ordered m c memory own is 11 (control store (Any-longer log (e ∷ [])
      (λ f. Earlier m f × (f.op ≡ Branch) × DependsOn log Ctrl f m)
      (λ f. Between m f e × (f.op ≡ Branch) × DependsOn (log ++ e ∷ []) Ctrl f m)
      (λ f cf p. (
        record { after = p.0; before = earlier-new f cf (sym p.0.hart ∙ own) },
        p.1,
        depends Ctrl f m p.2,
      )) any))
  before-store m c memory own is store (addressed any) =
      ordered m c memory own is 13 (after_dependent_address (record {
        store = store;
        through = Any-longer log (e ∷ [])
            (λ f. Earlier m f × DependsOn log Addr f m)
            (λ f. Between m f e × DependsOn (log ++ e ∷ []) Addr f m)
            (λ f cf p. (
              record { after = p.0; before = earlier-new f cf (sym p.0.hart ∙ own) },
              depends Addr f m p.1,
            )) any;
      }))
  before-store m c memory own is store (released ztso) = ordered m c memory own is 6 (before_release
      (subst (λ (by_model : MemoryModel). IsRelease by_model e) (sym ztso) (store-releases e store)))
