-- What the definitions say of one another.
use Rattle.std.specs.Prelude.{ℕ, ◌≡◌, ◌≢◌, ◌≤◌, ◌⊎◌, ◌↔◌, ◌++◌, List, [], ◌∷◌, length, All}
use Rattle.rv_event.specs.Log.{events}
use Rattle.rv_event.specs.Orders.{Lawful}
use Rattle.rv_event.specs.Edges.{IsEdge}
use Rattle.rv_event.specs.WellFormed.{WellFormed, WellFormedWithin, Continues}
use Rattle.rv_event.specs.Merges.{SameSources}
use Rattle.rv_event.specs.Relations.{DependsOn, Lists}
use Rattle.rv_event.specs.declared.event.DepKind.{DepKind}
use Rattle.rv_event.specs.declared.event.Event.{Event}
use Rattle.rv_event.specs.declared.event.Id.{Id}
use Rattle.rv_event.specs.declared.event.Op.TheVariants.{Carrier}
use Rattle.rv_event.specs.declared.event.Entry.{Entry}
use Rattle.rv_event.specs.declared.memory_model.MemoryModel.{MemoryModel}
use Rattle.rv_event.specs.declared.reason.Reason.{Reason}

-- where one merge of sources is well formed, each is
abbrev pub MergesAreWellFormed : Type 0
MergesAreWellFormed = (log other : List Entry) → WellFormed log → SameSources log other → WellFormed other

-- an order that is lawful for one merge of sources is lawful for each
abbrev pub MergesShareOrders : Type 0
MergesShareOrders =
    (model : MemoryModel) (log other : List Entry) (order : List Id) →
    WellFormed log → SameSources log other → Lawful model (events log) order → Lawful model (events other) order

-- a well formed log has at most sixteen harts of 4,096 events
abbrev pub LogsAreBounded : Type 0
LogsAreBounded = (log : List Entry) → WellFormed log → length log ≤ 65536

-- an edge stays one in every well formed log that goes on, however many events a hart may have
abbrev pub EdgesStay : Type 0
EdgesStay =
    (limit : ℕ) (model : MemoryModel) (log longer : List Entry) (i j : Id) (reason : Reason) →
    WellFormedWithin limit log → WellFormedWithin limit longer → Continues log longer →
    IsEdge model (events log) i reason j → IsEdge model (events longer) i reason j

-- an edge of a log with one entry more is an edge of the log, or has the new event at an end, however
-- many events a hart may have
abbrev pub NewEdgesEndAtTheNewEvent : Type 0
NewEdgesEndAtTheNewEvent =
    (limit : ℕ) (model : MemoryModel) (log : List Entry) (x : Entry) (i j : Id) (reason : Reason) →
    WellFormedWithin limit (log ++ x ∷ []) → IsEdge model (events (log ++ x ∷ [])) i reason j →
    IsEdge model (events log) i reason j ⊎ ((i ≡ x.event.id) ⊎ (j ≡ x.event.id))

-- in a log without carriers a dependency is one that an event lists
abbrev pub WithoutCarriersDependenciesAreListed : Type 0
WithoutCarriersDependenciesAreListed =
    (log : List Event) (kind : DepKind) (e a : Event) → All (λ m. m.op ≢ Carrier) log →
    DependsOn log kind e a ↔ Lists kind e a
