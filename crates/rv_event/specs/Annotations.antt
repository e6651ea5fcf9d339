-- Acquire, release and RCsc annotations: all in which the memory models differ. RVWMO: manual,
-- section 14.1, "Memory Model Primitives": the aq and rl bits of an LR, an SC or an AMO give RCsc
-- annotations; plain loads and stores have none. Ztso: this project's own profile of the manual's
-- chapter "Ztso": each load has an acquire and each store a release annotation, those of an AMO are
-- RCsc and the others RCpc; the bits of an LR, an SC or an AMO give RCsc ones as before.
use Rattle.std.specs.Prelude.{Bool, true, false, ◌||◌, ◌&&◌, IsTrue}
use Rattle.rv_event.specs.Operations.{is_load, is_store, is_amo}
use Rattle.rv_event.specs.declared.event.Op.{Op}
use Rattle.rv_event.specs.declared.event.Op.TheVariants.{Lr, Sc, Amo}
use Rattle.rv_event.specs.declared.event.Event.{Event}
use Rattle.rv_event.specs.declared.memory_model.MemoryModel.{MemoryModel}
use Rattle.rv_event.specs.declared.memory_model.MemoryModel.TheVariants.{Rvwmo, Ztso}

-- the operations whose aq and rl bits count
abbrev pub is_annotated : Op → Bool
is_annotated Lr = true
is_annotated Sc = true
is_annotated Amo = true
is_annotated _ = false

abbrev pub IsAcquire : MemoryModel → Event → Type 0
IsAcquire Rvwmo e = IsTrue (is_annotated e.op && e.acquire)
IsAcquire Ztso e = IsTrue (is_load e.op || (is_annotated e.op && e.acquire))

abbrev pub IsRelease : MemoryModel → Event → Type 0
IsRelease Rvwmo e = IsTrue (is_annotated e.op && e.release)
IsRelease Ztso e = IsTrue (is_store e.op || (is_annotated e.op && e.release))

-- an annotation that is RCsc
abbrev pub IsRcsc : MemoryModel → Event → Type 0
IsRcsc Rvwmo e = IsTrue (is_annotated e.op && (e.acquire || e.release))
IsRcsc Ztso e = IsTrue (is_amo e.op || (is_annotated e.op && (e.acquire || e.release)))
