use Rattle.rv_run.proofs.Common.{All, IfErr, IsFaultAmong, List, None, Option, Stream, TraceLeft, ap, subst, sym}
use Rattle.rv_run.proofs.Common.{◌∙◌, ◌≡◌}
use Rattle.rv_run.specs.InTurn.{streams_left}
use Rattle.rv_run.proofs.in_turn.run_in_turn.Goals as goal

-- None of the traces has met a fault.
pub judge_all-judged-requires-clause-good : goal.judge_all-judged-requires-clause-good
judge_all-judged-requires-clause-good g c =
    subst (λ (l : List TraceLeft). All (λ t. t.fault ≡ None) l) (sym c.as_mut_slice.ensures.value)
    c.in_ok-sources.ensures.good

-- What the traces give is what the readers do.
pub returns-clause-fault : goal.returns-clause-fault
returns-clause-fault g c =
    subst (λ (streams : List (Option Stream)). IfErr c.judge_all-judged.result (IsFaultAmong streams))
    (ap streams_left c.as_mut_slice.ensures.value ∙ c.in_ok-sources.ensures.streams) c.judge_all-judged.ensures.fault
