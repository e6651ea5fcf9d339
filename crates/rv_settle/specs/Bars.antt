-- Memory operations that stand before whatever their hart can still do: a rule of preserved program
-- order already has all that it asks for. Manual, section 14.1, "Preserved Program Order".
use Rattle.std.specs.Prelude.{◌≡◌, Any, IsTrue, List}
use Rattle.rv_event.specs.Annotations.{IsAcquire}
use Rattle.rv_event.specs.Log.{Earlier}
use Rattle.rv_event.specs.Relations.{DependsOn, fence_orders}
use Rattle.rv_event.specs.declared.event.DepKind.TheVariants.{Addr, Ctrl}
use Rattle.rv_event.specs.declared.event.Event.{Event}
use Rattle.rv_event.specs.declared.event.Op.TheVariants.{Branch, Load, Store}
use Rattle.rv_event.specs.declared.memory_model.MemoryModel.{MemoryModel}
use Rattle.rv_event.specs.declared.memory_model.MemoryModel.TheVariants.{Ztso}

-- m stands before each later load of its hart: it has an acquire annotation (rule 5), or a fence
-- behind it orders it before loads (rule 4)
pub data IsBeforeLoads (model : MemoryModel) (log : List Event) (m : Event) : Type 0 where
  acquired_loads : IsAcquire model m → IsBeforeLoads model log m
  fenced_loads : Any (λ f. Earlier m f × IsTrue (fence_orders f.op m.op Load)) log → IsBeforeLoads model log m

-- m stands before each later store of its hart: it has an acquire annotation (rule 5); a fence
-- behind it orders it before stores (rule 4); a branch behind it depends on it (rule 11), or the
-- address of an event behind it does (rule 13); or each store has a release annotation (rule 6)
pub data IsBeforeStores (model : MemoryModel) (log : List Event) (m : Event) : Type 0 where
  acquired_stores : IsAcquire model m → IsBeforeStores model log m
  fenced_stores : Any (λ f. Earlier m f × IsTrue (fence_orders f.op m.op Store)) log → IsBeforeStores model log m
  branched : Any (λ f. Earlier m f × (f.op ≡ Branch) × DependsOn log Ctrl f m) log → IsBeforeStores model log m
  addressed : Any (λ f. Earlier m f × DependsOn log Addr f m) log → IsBeforeStores model log m
  released : model ≡ Ztso → IsBeforeStores model log m
