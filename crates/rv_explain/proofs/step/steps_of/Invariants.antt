use Rattle.std.proofs.Common.{◌≡◌, ◌++◌, List, length}
use Rattle.rv_event.specs.Log.{events}
use Rattle.rv_event.specs.declared.event.Id.{Id}
use Rattle.rv_event.specs.declared.memory_model.MemoryModel.{MemoryModel}
use Rattle.rv_event.specs.declared.reason.Reason.{Reason}
use Rattle.rv_cert.specs.Certificates.{IsWalk, start_of}
use Rattle.rv_explain.specs.Steps.{AreStepsOf}
use Rattle.rv_explain.proofs.step.steps_of.Given as goal

-- the steps so far, and the walk that is left
pub record Walked (l : goal.Live-edges) : Type 0 where
  pub front : List (Id × Reason)
  pub split : l.initial.edges ≡ front ++ l.rest
  pub steps : AreStepsOf (events l.log) front (start_of l.rest l.end) l.steps.items
  pub model : MemoryModel
  pub walk : IsWalk model (events l.log) l.rest l.end

abbrev pub invariant-edges : goal.invariant-edges
invariant-edges l = Walked l

abbrev pub decreases-edges : goal.decreases-edges
decreases-edges l = length l.rest
