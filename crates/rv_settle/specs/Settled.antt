-- Operations that nothing can come before any more. These are this project's own.
use Rattle.std.specs.Prelude.{◌≡◌, ◌⊎◌, Contains, List, ℕ}
use Rattle.rv_cover.specs.Paths.{Path}
use Rattle.rv_event.specs.Edges.{IsEdge}
use Rattle.rv_event.specs.Operations.{IsMemory}
use Rattle.rv_event.specs.declared.event.Event.{Event}
use Rattle.rv_event.specs.declared.event.Id.{Id}
use Rattle.rv_event.specs.declared.memory_model.MemoryModel.{MemoryModel}
use Rattle.rv_event.specs.declared.reason.Reason.{Reason}
use Rattle.rv_settle.specs.Bars.{IsBeforeLoads, IsBeforeStores}

-- an edge leads from the one to the other, for some reason
abbrev pub AnyEdge : MemoryModel → List Event → Id → Id → Type 0
AnyEdge model log i j = (reason : Reason) × IsEdge model log i reason j

-- p is a memory operation of this hart for which Stands holds, or edges lead from it to one
pub record LeadsTo
    (model : MemoryModel) (log : List Event) (hart : ℕ) (Stands : Event → Type 0) (p : Event) : Type 0 where
  pub m : Event
  pub of_log : Contains log m
  pub memory : IsMemory m
  pub own : m.id.hart ≡ hart
  pub leads : (p.id ≡ m.id) ⊎ Path Id (AnyEdge model log) p.id m.id
  pub stands : Stands m

-- p leads to an operation of the hart that stands before its later loads, and to one that stands
-- before its later stores
pub record IsSettledFor (model : MemoryModel) (log : List Event) (hart : ℕ) (p : Event) : Type 0 where
  pub loads : LeadsTo model log hart (IsBeforeLoads model log) p
  pub stores : LeadsTo model log hart (IsBeforeStores model log) p

-- p is settled: it is so for each hart that is still active
abbrev pub IsSettled : MemoryModel → List Event → List ℕ → Event → Type 0
IsSettled model log active p = (hart : ℕ) → Contains active hart → IsSettledFor model log hart p
