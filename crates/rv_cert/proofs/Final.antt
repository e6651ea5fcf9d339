-- A certificate stays one when the log grows.
use Rattle.rv_event.specs.declared.memory_model.MemoryModel.{MemoryModel}
use Rattle.std.proofs.Common.{ℕ, List, [], ◌∷◌}
use Rattle.rv_event.proofs.Beginnings.{indexed-beginning, numbered_within}
use Rattle.rv_event.proofs.Indexed.{IndexedWithin, indexed_within}
use Rattle.rv_event.proofs.Growing.{Grows, grows_from_Continues, IsEdge-grows, IsStale-grows}
use Rattle.rv_event.specs.Log.{events}
use Rattle.rv_event.specs.Orders.{Lawful}
use Rattle.rv_event.specs.WellFormed.{WellFormedWithin, Continues}
use Rattle.rv_event.specs.declared.event.Id.{Id}
use Rattle.rv_event.specs.declared.event.Event.{Event}
use Rattle.rv_event.specs.declared.event.Entry.{Entry}
use Rattle.rv_event.specs.declared.reason.Reason.{Reason}
use Rattle.rv_cert.specs.Certificates.{start_of, IsWalk, IsClosedWalk, Certifies}
use Rattle.rv_cert.specs.Refusals.{Refusal, IsRefusal, IsFinal}
use Rattle.rv_cert.specs.declared.certificate.Certificate.{Certificate}
use Rattle.rv_cert.proofs.Forward.{no_certificate}
use Rattle.rv_cert.specs.declared.certificate.Certificate.TheVariants.{Circle, Stale}

module _ {limit : ℕ} (model : MemoryModel) (old new : List Event) (grows : Grows old new)
    (known : IndexedWithin limit old) (known' : IndexedWithin limit new) where
  IsWalk-grows : (steps : List (Id × Reason)) (end : Id) → IsWalk model old steps end → IsWalk model new steps end
  IsWalk-grows [] end w = tt
  IsWalk-grows (step ∷ rest) end w = (
    IsEdge-grows model old new grows known known' step.0
        (start_of rest end) step.1 w.0,
    IsWalk-grows rest end w.1,
  )

  IsClosedWalk-grows : (steps : List (Id × Reason)) → IsClosedWalk model old steps → IsClosedWalk model new steps
  IsClosedWalk-grows [] w = w
  IsClosedWalk-grows (step ∷ rest) w = IsWalk-grows (step ∷ rest) step.0 w

  -- a certificate stays one when the log grows
  pub Certifies-grows : (c : Certificate) → Certifies model old c → Certifies model new c
  Certifies-grows (Circle steps) h = IsClosedWalk-grows steps h
  Certifies-grows (Stale load store) h = IsStale-grows model old new grows known known' load store h

-- a certificate leaves no lawful order for any well formed log that continues this one
pub no_longer_log :
    (limit : ℕ) (model : MemoryModel) (log longer : List Entry) (c : Certificate) (order : List Id) →
    WellFormedWithin limit longer → Continues log longer →
    Certifies model (events log) c → Lawful model (events longer) order → ⊥
no_longer_log limit model log longer c order ok continues certifies lawful =
    let grows = grows_from_Continues log longer continues in
    let known = indexed_within limit longer ok in
    let beginning = indexed-beginning (events log) (events longer) grows known (numbered_within limit longer ok) in
    no_certificate model (events longer) order lawful c
    (Certifies-grows model (events log) (events longer) grows beginning known c certifies)

-- so a refusal is final
pub final_from_refusal : (f : Refusal) → IsRefusal f.model f.evidence f.certificate → IsFinal f.model f.evidence
final_from_refusal f is longer order ok continues lawful =
    no_longer_log 4096 f.model f.evidence longer f.certificate order ok continues is.certifies lawful
