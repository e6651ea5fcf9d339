use Rattle.rv_run.proofs.Common.{rules}
use Rattle.std.proofs.lemmas.Result.{IfOk-weaker}
use Rattle.rv_run.proofs.running.run_reading.Goals as goal

-- Sources that are read in turn.
pub returns-then-reading : goal.returns-then-reading
returns-then-reading g c =
    let told = rw c.question-question.ensures at c.run_in_turn-judged.ensures in
    let answer = c.run_in_turn-judged.result in record {
      allowed = IfOk-weaker answer _ _ (λ j is. is.allowed) told.judged;
      forbidden = IfOk-weaker answer _ _ (λ j is. is.forbidden) told.judged;
      malformed = IfOk-weaker answer _ _ (λ j is. is.malformed) told.judged;
      covered = IfOk-weaker answer _ _ (λ j is. is.covered) told.judged;
      asked = IfOk-weaker answer _ _ (λ j is. is.asked) told.judged;
      only = IfOk-weaker answer _ _ (λ j is. is.only) told.judged;
      lacks = IfOk-weaker answer _ _ (λ j is. is.lacks) told.judged;
      complete = IfOk-weaker answer _ _ (λ j is. is.complete) told.judged;
      strength = IfOk-weaker answer _ _ (λ j is. is.strength) told.judged;
      tested = IfOk-weaker answer _ _ (λ j is. is.tested) told.judged;
      fault = told.fault;
      settings = search rules;
    }
