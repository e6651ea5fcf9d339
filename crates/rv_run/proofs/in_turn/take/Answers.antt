use Rattle.rv_run.proofs.Common.{IsFinal, MemoryModel, subst}
use Rattle.rv_run.proofs.in_turn.take.Goals as goal

-- The book's refusal is the source's, and final.
pub returns-in-Forbidden-clause-refused : goal.returns-in-Forbidden-clause-refused
returns-in-Forbidden-clause-refused c =
    let told = c.in-Forbidden.ensures.forbidden in
    let refusal = c.in-Forbidden.forbidden in (
      told.judged_by,
      told.evidence,
      c.evidence-evidence.ensures.well_formed,
      subst (λ (m : MemoryModel). IsFinal m refusal.evidence) told.judged_by c.evidence-evidence.ensures.is_final,
    )
