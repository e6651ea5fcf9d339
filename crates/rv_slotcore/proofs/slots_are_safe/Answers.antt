use Rattle.rv_slotcore.specs.Machine.{run, start}
use Rattle.rv_slotcore.proofs.Run.{run_keeps, start_safe, safe_means}
use Rattle.rv_slotcore.proofs.slots_are_safe.Goals as goal

pub returns : goal.returns
returns c = λ n m steps few. safe_means (run steps (start n m))
    (run_keeps steps (start n m) (start_safe n m few))
