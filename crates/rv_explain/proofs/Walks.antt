-- The steps of a walk, one more at a time.
use Rattle.std.proofs.Common.{◌≡◌, ◌∙◌, ◌∷◌, ◌++◌, [], List, ap, sym, subst, refl, append_assoc, length, arith}
use Rattle.std.proofs.lemmas.List.{append-nil}
use Rattle.rv_event.specs.declared.event.Event.{Event}
use Rattle.rv_event.specs.declared.event.Id.{Id}
use Rattle.rv_event.specs.declared.reason.Reason.{Reason}
use Rattle.rv_event.specs.Edges.{IsEdge}
use Rattle.rv_event.specs.declared.memory_model.MemoryModel.{MemoryModel}
use Rattle.rv_cert.specs.Certificates.{IsClosedWalk, IsWalk, start_of}
use Rattle.rv_explain.specs.Steps.{AreStepsOf, AreStepsOfCycle, IsStepOf, ids_of_step, ids_of_steps}
use Rattle.rv_explain.specs.declared.step.Step.{Step}

-- a walk that goes on begins where it did
start-more : (edges : List (Id × Reason)) (edge : Id × Reason) (to : Id) →
    start_of edges edge.0 ≡ start_of (edges ++ edge ∷ []) to
start-more [] edge to = refl
start-more (other ∷ edges) edge to = refl

-- one step more
pub steps-more : (log : List Event) (edges : List (Id × Reason)) (steps : List Step) (edge : Id × Reason) (to : Id)
    (s : Step) → AreStepsOf log edges edge.0 steps → IsStepOf log edge.0 edge.1 to s →
    AreStepsOf log (edges ++ edge ∷ []) to (steps ++ s ∷ [])
steps-more log [] [] edge to s are is = (is, tt)
steps-more log [] (step ∷ steps) edge to s are is = absurd are
steps-more log (other ∷ edges) [] edge to s are is = absurd are
steps-more log (other ∷ edges) (step ∷ steps) edge to s are is = (
  subst (λ (end : Id). IsStepOf log other.0 other.1 end step) (start-more edges edge to) are.0,
  steps-more log edges steps edge to s are.1 is,
)

-- the ids of one step more
pub ids-more : (steps : List Step) (s : Step) →
    ids_of_steps (steps ++ s ∷ []) ≡ ids_of_steps steps ++ ids_of_step s
unfolding ids_of_steps
ids-more [] s = append-nil (ids_of_step s)
ids-more (step ∷ steps) s =
    ap (λ (ids : List Id). ids_of_step step ++ ids) (ids-more steps s)
    ∙ sym (append_assoc (ids_of_step step) (ids_of_steps steps) (ids_of_step s))

-- a closed walk is one that leads to its first event
pub walk-closed : (model : MemoryModel) (log : List Event) (edges : List (Id × Reason)) (edge : Id × Reason)
    (after : List (Id × Reason)) → edges ≡ edge ∷ after → IsClosedWalk model log edges →
    IsWalk model log edges edge.0
walk-closed model log edges edge after e walk =
    subst (λ (es : List (Id × Reason)). IsWalk model log es edge.0) (sym e)
    (subst (λ (es : List (Id × Reason)). IsClosedWalk model log es) e walk)

-- the rest of a walk
pub walk-rest : (model : MemoryModel) (log : List Event) (rest : List (Id × Reason)) (edge : Id × Reason)
    (after : List (Id × Reason)) (end : Id) → rest ≡ edge ∷ after → IsWalk model log rest end →
    IsEdge model log edge.0 edge.1 (start_of after end) × IsWalk model log after end
walk-rest model log rest edge after end e walk = subst (λ (es : List (Id × Reason)). IsWalk model log es end) e walk

-- one step more of the walk that is left
pub steps-next : (log : List Event) (front rest : List (Id × Reason)) (steps : List Step) (edge : Id × Reason)
    (after : List (Id × Reason)) (end : Id) (s : Step) → rest ≡ edge ∷ after →
    AreStepsOf log front (start_of rest end) steps → IsStepOf log edge.0 edge.1 (start_of after end) s →
    AreStepsOf log (front ++ edge ∷ []) (start_of after end) (steps ++ s ∷ [])
steps-next log front rest steps edge after end s e are is =
    steps-more log front steps edge (start_of after end) s
    (subst (λ (es : List (Id × Reason)). AreStepsOf log front (start_of es end) steps) e are) is

-- what was walked, and what is left
pub walk-split : (edges front rest : List (Id × Reason)) (edge : Id × Reason) (after : List (Id × Reason)) →
    edges ≡ front ++ rest → rest ≡ edge ∷ after → edges ≡ (front ++ edge ∷ []) ++ after
walk-split edges front rest edge after split e =
    split ∙ ap (λ (r : List (Id × Reason)). front ++ r) e ∙ sym (append_assoc front (edge ∷ []) after)

-- at the end all steps are there
pub steps-all : (log : List Event) (edges front rest : List (Id × Reason)) (first : Id × Reason)
    (after : List (Id × Reason)) (steps : List Step) → edges ≡ front ++ rest → length rest ≡ 0 →
    edges ≡ first ∷ after → AreStepsOf log front (start_of rest first.0) steps → AreStepsOfCycle log edges steps
steps-all log edges front [] first after steps split empty e are =
    let whole : front ≡ first ∷ after = sym (append-nil front) ∙ sym split ∙ e in
    subst (λ (es : List (Id × Reason)). AreStepsOfCycle log es steps) (sym e)
    (subst (λ (es : List (Id × Reason)). AreStepsOf log es first.0 steps) whole are)
steps-all log edges front (x ∷ rest) first after steps split empty e are = absurd (omega (empty, arith))
