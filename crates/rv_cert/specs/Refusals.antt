-- What a refusal keeps.
use Rattle.std.specs.Prelude.{◌≡◌, Some, List, [], ◌∷◌, ◌++◌}
use Rattle.rv_event.specs.Log.{events}
use Rattle.rv_event.specs.Orders.{Lawful}
use Rattle.rv_event.specs.Faults.{fault_of}
use Rattle.rv_event.specs.WellFormed.{WellFormed, Continues}
use Rattle.rv_event.specs.declared.event.Id.{Id}
use Rattle.rv_event.specs.declared.event.Entry.{Entry}
use Rattle.rv_event.specs.declared.fault.Fault.{Fault}
use Rattle.rv_event.specs.declared.memory_model.MemoryModel.{MemoryModel}
use Rattle.rv_cert.specs.Certificates.{Certifies}
use Rattle.rv_cert.specs.declared.certificate.Certificate.{Certificate}

-- a model, a log and a certificate
pub record Refusal : Type 0 where
  pub model : MemoryModel
  pub evidence : List Entry
  pub certificate : Certificate

-- a well formed log that the certificate is for
pub record IsRefusal (model : MemoryModel) (evidence : List Entry) (certificate : Certificate) : Type 0 where
  pub well_formed : WellFormed evidence
  pub certifies : Certifies model (events evidence) certificate

-- no order is lawful for any well formed log that continues this one
abbrev pub IsFinal : MemoryModel → List Entry → Type 0
IsFinal model evidence =
    (longer : List Entry) (order : List Id) →
    WellFormed longer → Continues evidence longer → Lawful model (events longer) order → ⊥

-- the last entry of the log has this id
pub record LastIs (log : List Entry) (i : Id) : Type 0 where
  pub front : List Entry
  pub last : Entry
  pub whole : log ≡ front ++ last ∷ []
  pub id : last.event.id ≡ i

-- a model, a log and a fault
pub record FaultyLog : Type 0 where
  pub model : MemoryModel
  pub evidence : List Entry
  pub fault : Fault

-- the log's last entry has this fault over those before it, which are well formed
pub record IsMalformed (evidence : List Entry) (fault : Fault) : Type 0 where
  pub front : List Entry
  pub last : Entry
  pub whole : evidence ≡ front ++ last ∷ []
  pub well_formed : WellFormed front
  pub fails : fault_of front last ≡ Some fault
