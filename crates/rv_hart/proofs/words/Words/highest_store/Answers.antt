use Rattle.rv_hart.proofs.Common.{arith, common_steps}
use Rattle.rv_hart.proofs.words.Words.highest_store.Goals as goal

pub returns-in_err-number : goal.returns-in_err-number
returns-in_err-number c = grind (arith, common_steps)
