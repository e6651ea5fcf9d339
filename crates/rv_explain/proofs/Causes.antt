-- A log that leaves no lawful order has an event.
use Rattle.std.proofs.Common.{◌<◌, ◌∷◌, [], List, length, zero-lt-suc}
use Rattle.std.proofs.lemmas.Option.{none-some}
use Rattle.rv_event.specs.Log.{events}
use Rattle.rv_event.specs.declared.event.Entry.{Entry}
use Rattle.rv_event.specs.declared.event.Id.{Id}
use Rattle.rv_event.specs.declared.reason.Reason.{Reason}
use Rattle.rv_cert.specs.declared.certificate.Certificate.{Certificate}
use Rattle.rv_cert.specs.declared.certificate.Certificate.TheVariants as certificate
use Rattle.rv_explain.specs.Explaining.{IsCauseOf}
use Rattle.rv_explain.specs.Steps.{AreStepsOf}
use Rattle.rv_explain.specs.declared.explanation.Cause.{Cause}
use Rattle.rv_explain.specs.declared.explanation.Cause.TheVariants.{Cycle, Stale}
use Rattle.rv_explain.specs.declared.step.Step.{Step}

-- no event is named in an empty log
none-step : (edge : Id × Reason) (edges : List (Id × Reason)) (end : Id) (steps : List Step) →
    AreStepsOf [] (edge ∷ edges) end steps → ⊥
none-step edge edges end [] are = are
none-step edge edges end (s ∷ steps) are = none-some _ are.0.is_from

-- so what is told of a log tells an event of it
pub cause-some : (log : List Entry) (c : Certificate) (cause : Cause) → IsCauseOf (events log) c cause → 0 < length log
cause-some (x ∷ log) c cause is = zero-lt-suc _
cause-some [] (certificate.Circle []) (Cycle steps) is = absurd is
cause-some [] (certificate.Circle (edge ∷ edges)) (Cycle steps) is = absurd (none-step edge edges edge.0 steps.items is)
cause-some [] (certificate.Circle edges) (Stale a b) is = absurd is
cause-some [] (certificate.Stale load store) (Cycle steps) is = absurd is
cause-some [] (certificate.Stale load store) (Stale a b) is = absurd (none-some _ is.0)
