-- The versions of a row, from the order in which stores took effect. An AMO loads and stores at once: it returns the
-- version before its own.
use Rattle.std.specs.Prelude.{ℕ, ◌≡◌, ◌+◌, List, Contains, Bool, Option, Some, None, ⊤}
use Rattle.rv_event.specs.declared.event.Op.{Op}
use Rattle.rv_event.specs.declared.event.Op.TheVariants as op
use Rattle.rv_log.specs.declared.record.Performed.{Performed}
use Rattle.rv_log.specs.declared.record.Retired.{Retired}
use Rattle.rv_commits.specs.Made.{made}
use Rattle.rv_commits.specs.declared.made.Made.{Made}
use Rattle.rv_memory.specs.Reads as reads
use Rattle.rv_memory.specs.Stores.{HasIssuer, IsEffect}
use Rattle.rv_memory.specs.declared.stores.Effect.{Effect}
use Rattle.rv_commits.specs.declared.awaited.Awaited.{Awaited}
use Rattle.rv_commits.specs.declared.awaited.Awaited.TheVariants.{Nothing, Store, Load, Amo, Value}
use Rattle.rv_commits.specs.declared.awaited.Versions.{Versions}

-- the store of this order took effect, and made this version
abbrev pub Wrote : List Performed → ℕ → ℕ → ℕ → Type 0
Wrote log hart order version = (effect : Effect) × IsEffect log hart order effect × (version ≡ effect.version)

-- the versions of a row
abbrev pub AreVersions : List Performed → ℕ → Awaited → Versions → Type 0
AreVersions log hart Nothing v = (v.read ≡ 0) × (v.wrote ≡ 0)
AreVersions log hart (Store order) v = (v.read ≡ 0) × Wrote log hart order v.wrote
AreVersions log hart (Load load) v = reads.IsRead log load v.read × (v.wrote ≡ 0)
AreVersions log hart (Amo order) v = (v.wrote ≡ v.read + 1) × Wrote log hart order v.wrote
AreVersions log hart Value v = ⊥

-- no store of this order has taken effect
abbrev pub HasNone : List Performed → ℕ → ℕ → Type 0
HasNone log hart order = (p : Performed) → Contains log p → HasIssuer hart order p → ⊥

-- they are open
abbrev pub IsWaiting : List Performed → ℕ → Awaited → Bool → Type 0
IsWaiting log hart Nothing ended = ⊥
IsWaiting log hart (Store order) ended = HasNone log hart order
IsWaiting log hart (Load load) ended = reads.IsWaiting log load ended
IsWaiting log hart (Amo order) ended = HasNone log hart order
IsWaiting log hart Value ended = ⊤

-- what the versions of a load come from
abbrev pub load_by : Retired → Option ℕ → Option ℕ → Awaited
load_by r own (Some time) = Load (record { hart = r.hart; address = r.address; time = time; own = own })
load_by r own None = Value

-- and those of an operation
abbrev pub operation_by : Retired → Option ℕ → Op → Awaited
operation_by r own op.Store = Store r.order
operation_by r own op.Sc = Store r.order
operation_by r own op.Amo = Amo r.order
operation_by r own op.Load = load_by r own r.time
operation_by r own op.Lr = load_by r own r.time
operation_by r own _ = Nothing

abbrev pub awaited_of : Retired → Option ℕ → Option Made → Awaited
awaited_of r own (Some m) = operation_by r own m.op
awaited_of r own None = Nothing

-- what the versions of an instruction's row come from, where this is its hart's last earlier store to the word
abbrev pub awaited_by : Retired → Option ℕ → Awaited
awaited_by r own = awaited_of r own (made r)
