-- The steps of a cycle: each edge with its ends, and with what its reason stands on.
use Rattle.std.specs.Prelude.{◌≡◌, List, [], ◌∷◌, ◌++◌, Some, None, Option, All, IfSome, IfNone}
use Rattle.std.specs.Option.{option_copied}
use Rattle.rv_event.specs.Log.{named}
use Rattle.rv_event.specs.declared.event.Event.{Event}
use Rattle.rv_event.specs.declared.event.Id.{Id}
use Rattle.rv_event.specs.declared.reason.Reason.{Reason}
use Rattle.rv_cert.specs.Certificates.{start_of}
use Rattle.rv_explain.specs.Witnesses.{IsFirstOf, IsWitness}
use Rattle.rv_explain.specs.declared.step.Step.{Step}

-- the step of an edge: the events that the ids name, and the first that the reason stands on
pub record IsStepOf (log : List Event) (from : Id) (reason : Reason) (to : Id) (s : Step) : Type 0 where
  pub is_from : named log from ≡ Some s.from.now
  pub is_reason : s.reason ≡ reason
  pub is_to : named log to ≡ Some s.to.now
  pub witness : IfSome (option_copied s.witness) (IsFirstOf (IsWitness log reason s.from.now s.to.now) log)
  pub none : IfNone (option_copied s.witness) (All (λ m. IsWitness log reason s.from.now s.to.now m → ⊥) log)

-- the steps of a walk that leads to the end, in its order
abbrev pub AreStepsOf : List Event → List (Id × Reason) → Id → List Step → Type 0
AreStepsOf log [] end [] = Unit {0}
AreStepsOf log [] end (step ∷ steps) = ⊥
AreStepsOf log (edge ∷ edges) end [] = ⊥
AreStepsOf log (edge ∷ edges) end (step ∷ steps) =
    IsStepOf log edge.0 edge.1 (start_of edges end) step × AreStepsOf log edges end steps

-- the steps of a cycle: its walk leads to its first event
abbrev pub AreStepsOfCycle : List Event → List (Id × Reason) → List Step → Type 0
AreStepsOfCycle log [] steps = ⊥
AreStepsOfCycle log (edge ∷ edges) steps = AreStepsOf log (edge ∷ edges) edge.0 steps

abbrev pub witness_ids : Option Event → List Id
witness_ids (Some m) = m.id ∷ []
witness_ids None = []

-- the ids of the events of a step: its ends, and what its reason stands on
abbrev pub ids_of_step : Step → List Id
ids_of_step s = s.from.now.id ∷ s.to.now.id ∷ witness_ids (option_copied s.witness)

-- those of all steps
unfoldable pub ids_of_steps : List Step → List Id
ids_of_steps [] = []
ids_of_steps (s ∷ steps) = ids_of_step s ++ ids_of_steps steps
