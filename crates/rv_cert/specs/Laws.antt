-- What certificates and edges say of lawful orders, however many events a hart may have.
use Rattle.std.specs.Prelude.{ℕ, ◌<◌, List}
use Rattle.rv_event.specs.Log.{events}
use Rattle.rv_event.specs.Orders.{IsOrderOf, Lawful, place}
use Rattle.rv_event.specs.Edges.{IsEdge, IsStale}
use Rattle.rv_event.specs.WellFormed.{WellFormedWithin, Continues}
use Rattle.rv_event.specs.declared.event.Id.{Id}
use Rattle.rv_event.specs.declared.event.Event.{Event}
use Rattle.rv_event.specs.declared.event.Entry.{Entry}
use Rattle.rv_event.specs.declared.memory_model.MemoryModel.{MemoryModel}
use Rattle.rv_event.specs.declared.reason.Reason.{Reason}
use Rattle.rv_cert.specs.Certificates.{Certifies}
use Rattle.rv_cert.specs.declared.certificate.Certificate.{Certificate}

-- a certificate of a well formed log leaves no lawful order
abbrev pub NoneLawful : Type 0
NoneLawful =
    (limit : ℕ) (model : MemoryModel) (log : List Entry) (c : Certificate) (order : List Id) →
    WellFormedWithin limit log → Certifies model (events log) c → Lawful model (events log) order → ⊥

-- each edge goes forward in the order
abbrev pub EdgesGoForward : MemoryModel → List Event → List Id → Type 0
EdgesGoForward model log order =
    (i j : Id) (reason : Reason) → IsEdge model log i reason j → place order i < place order j

-- no pair of the log is stale
abbrev pub NoneStale : List Event → Type 0
NoneStale log = (load store : Id) → IsStale log load store → ⊥

-- where no pair is stale, an order in which every edge goes forward is lawful
abbrev pub EdgesSuffice : Type 0
EdgesSuffice =
    (limit : ℕ) (model : MemoryModel) (log : List Entry) (order : List Id) →
    WellFormedWithin limit log → NoneStale (events log) →
    IsOrderOf (events log) order → EdgesGoForward model (events log) order → Lawful model (events log) order

-- a certificate leaves no lawful order for any well formed log that continues this one
abbrev pub RefusalIsFinal : Type 0
RefusalIsFinal =
    (limit : ℕ) (model : MemoryModel) (log longer : List Entry) (c : Certificate) (order : List Id) →
    WellFormedWithin limit longer → Continues log longer →
    Certifies model (events log) c → Lawful model (events longer) order → ⊥
