-- A run of the code is a run of the machine.
use Rattle.rv_slotcore.proofs.Common.{◌≡◌, ℕ, ◌+◌, ◌<◌, List, [], ◌∷◌, ◌++◌, length, map, take, get_or, refl, ap}
use Rattle.rv_slotcore.proofs.Common.{◌∙◌, take_more, map-append, arith, common_steps, run, answers, after}
use Rattle.rv_slotcore.proofs.Common.{answer, step_of, answer_of, Answer}
use Rattle.rv_slotcore.specs.declared.step.Step.{Step}
use Rattle.rv_slotcore.specs.Machine as machine

answers-append : (es fs : List machine.Step) (c : machine.Core) → answers (es ++ fs) c
    ≡ answers es c ++ answers fs (run es c)
answers-append [] fs c = refl
answers-append (e ∷ es) fs c = ap (λ told. answer c e ∷ told) (answers-append es fs (after c e))

module _ (all : List Step) (k : ℕ) (d : Step) (from : machine.Core) where
  abbrev first : List machine.Step
  first = map step_of (take k all)

  abbrev next : machine.Step
  next = step_of (get_or all k d)

  one_more : k < length all → map step_of (take (k + 1) all) ≡ first ++ next ∷ []
  one_more low = ap (map step_of) (take_more all k d low) ∙ map-append step_of (take k all)
      (get_or all k d ∷ [])

  -- one answer more
  pub told_more : k < length all → (c : machine.Core) (told more : List Answer) (a : Answer) → c
      ≡ run first from
      → map answer_of told ≡ answers first from → answer_of a ≡ answer c next → more ≡ told ++ a
      ∷ [] → map answer_of more ≡ answers (map step_of (take (k + 1) all)) from
  told_more low c told more a ran old is added =
      grind (arith, common_steps, map-append, answers-append, one_more)
