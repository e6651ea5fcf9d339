use Rattle.rv_hart.proofs.Common.{arith, Condition-above}
use Rattle.rv_hart.proofs.next.Next.lowest_of.Goals as goal

-- There is no rule 0.
pub lowest_to-lowest-requires-clause-lower : goal.lowest_to-lowest-requires-clause-lower
lowest_to-lowest-requires-clause-lower c = λ j low holds. absurd (omega (arith, low, Condition-above _ _ _ _ _ holds))
