-- Certificates: what shows that no order is lawful for a log (after Gibbons and Korach, "Testing
-- shared memories").
use Rattle.std.specs.Prelude.{List, [], ◌∷◌}
use Rattle.rv_event.specs.Edges.{IsEdge, IsStale}
use Rattle.rv_event.specs.declared.event.Id.{Id}
use Rattle.rv_event.specs.declared.event.Event.{Event}
use Rattle.rv_event.specs.declared.memory_model.MemoryModel.{MemoryModel}
use Rattle.rv_event.specs.declared.reason.Reason.{Reason}
use Rattle.rv_cert.specs.declared.certificate.Certificate.{Certificate}
use Rattle.rv_cert.specs.declared.certificate.Certificate.TheVariants.{Circle, Stale}

-- the id of the first step, or the walk's end
abbrev pub start_of : List (Id × Reason) → Id → Id
start_of [] end = end
start_of (step ∷ rest) end = step.0

-- a walk of edges through these steps that leads to the end
abbrev pub IsWalk : MemoryModel → List Event → List (Id × Reason) → Id → Type 0
IsWalk model log [] end = Unit {0}
IsWalk model log (step ∷ rest) end = IsEdge model log step.0 step.1 (start_of rest end) × IsWalk model log rest end

-- a closed walk of at least one edge
abbrev pub IsClosedWalk : MemoryModel → List Event → List (Id × Reason) → Type 0
IsClosedWalk model log [] = ⊥
IsClosedWalk model log (step ∷ rest) = IsWalk model log (step ∷ rest) step.0

-- the certificate is one for these events: a closed walk of edges, or a stale pair
abbrev pub Certifies : MemoryModel → List Event → Certificate → Type 0
Certifies model log (Circle steps) = IsClosedWalk model log steps
Certifies model log (Stale load store) = IsStale log load store
