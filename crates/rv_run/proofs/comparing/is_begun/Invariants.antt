use Rattle.rv_run.proofs.Common.{ℕ, ◌<◌, get_or, IsBegunIn, Fed}
use Rattle.rv_run.proofs.comparing.is_begun.Given as goal

abbrev pub invariant-loop-i : goal.invariant-loop-i
invariant-loop-i l = (k : ℕ) (f : Fed) → k < l.i → IsBegunIn l.log k (get_or l.fed k f)
