use Rattle.rv_event.proofs.Common.{get_or, map-append, take_more}
use Rattle.rv_event.specs.declared.event.Id.{Id}
use Rattle.rv_event.specs.declared.reason.Reason.{Reason}
use Rattle.rv_watch.specs.Names.{named, step_named}
use Rattle.std.proofs.Common.{ℕ, ◌≡◌, ◌∙◌, ◌<◌, ◌+◌, ◌++◌, ◌∷◌, [], List, Option, ap, length, map, sym, take}
use Rattle.rv_watch.proofs.naming.Naming.steps.Goals as goal

-- the steps so far, and one more
told-more : (firsts : List ℕ) (refused : Option (Id × Id)) (steps : List (Id × Reason)) (k : ℕ) → k < length steps →
    (other : Id × Reason) (told more : List (Id × Reason)) (name : Id) →
    told ≡ map (step_named firsts refused) (take k steps) → name ≡ named firsts refused (get_or steps k other).0 →
    more ≡ told ++ (name, (get_or steps k other).1) ∷ [] → more ≡ map (step_named firsts refused) (take (k + 1) steps)
told-more firsts refused steps k low other told more name so-far same is =
    is ∙ ap (λ (n : Id). told ++ (n, (get_or steps k other).1) ∷ []) same
    ∙ ap (λ (xs : List (Id × Reason)). xs ++ step_named firsts refused (get_or steps k other) ∷ []) so-far
    ∙ sym (ap (map (step_named firsts refused)) (take_more steps k other low)
    ∙ map-append (step_named firsts refused) (take k steps) (get_or steps k other ∷ []))

pub loop-step-preserved : goal.loop-step-preserved
loop-step-preserved c = told-more c.args.self.now.firsts.now c.args.self.now.refused c.args.steps.now
    c.loop-step.step-index c.loop-step-test.true _ c.loop-step.told.items c.push.new.self.items c.name.result
    c.loop-step.invariant c.name.ensures c.in_ok-push.ensures.items
