-- What operations do: the loads and stores of main memory. Manual, section 14.1, "Memory Model
-- Primitives". A successful SC is a store; a failed SC is no memory operation. An AMO is one memory
-- operation that is a load and a store at once.
use Rattle.std.specs.Prelude.{Bool, true, false, ◌||◌, ◌≡◌, IsTrue}
use Rattle.rv_event.specs.declared.event.Op.{Op}
use Rattle.rv_event.specs.declared.event.Op.TheVariants.{Load, Store, Lr, Sc, ScFailed, Amo}
use Rattle.rv_event.specs.declared.event.Event.{Event}

-- a load, an LR and an AMO load a word
abbrev pub is_load : Op → Bool
is_load Load = true
is_load Lr = true
is_load Amo = true
is_load _ = false

-- a store, a successful SC and an AMO store one
abbrev pub is_store : Op → Bool
is_store Store = true
is_store Sc = true
is_store Amo = true
is_store _ = false

-- a memory operation loads, stores or does both
abbrev pub is_memory : Op → Bool
is_memory op = is_load op || is_store op

-- it names a word; a failed SC does, and accesses none
abbrev pub has_word : Op → Bool
has_word ScFailed = true
has_word op = is_memory op

abbrev pub is_amo : Op → Bool
is_amo Amo = true
is_amo _ = false

-- an LR opens a reservation; an SC ends it, whether it succeeds or fails
abbrev pub is_exclusive : Op → Bool
is_exclusive Lr = true
is_exclusive Sc = true
is_exclusive ScFailed = true
is_exclusive _ = false

abbrev pub IsLoad : Event → Type 0
IsLoad e = IsTrue (is_load e.op)

abbrev pub IsStore : Event → Type 0
IsStore e = IsTrue (is_store e.op)

abbrev pub IsMemory : Event → Type 0
IsMemory e = IsTrue (is_memory e.op)

-- the load returns what the store wrote: word and version are the same
pub record Returns (load store : Event) : Type 0 where
  pub word : load.word ≡ store.word
  pub version : load.read ≡ store.wrote
