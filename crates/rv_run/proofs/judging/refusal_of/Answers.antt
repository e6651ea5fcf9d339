use Rattle.rv_run.proofs.Common.{arith, common_steps, ◌≡◌, ap, ◌∙◌, rules, model_of, IsBegun}
use Rattle.rv_run.proofs.RefusalOutcomes.{forbidden-agrees, malformed-agrees}
use Rattle.rv_run.proofs.judging.refusal_of.Goals.{in-Forbidden, in-Malformed}
use Rattle.rv_run.proofs.judging.refusal_of.Goals as goal

pub returns-clause-outcome : goal.returns-clause-outcome
returns-clause-outcome c =
    let own : model_of c.args.verdict.now ≡ c.args.model = grind (arith, common_steps) in
    let begun : IsBegun c.match-verdict.evidence.now c.args.fed.now = search rules in
    elim c.match-verdict.branch [
      | in-Forbidden w ↦ forbidden-agrees c.args.model c.args.fed.now c.args.verdict.now c.in_ok-copy.field-0
          c.match-verdict.evidence.now c.from.result
          c.in_ok-copy.ensures c.from.ensures own begun w.in-Forbidden.forbidden w.in-Forbidden.is
          (ap (λ e. e.now) w.evidence-is ∙ w.evidence-evidence.ensures.value)
          w.evidence-evidence.ensures.well_formed w.evidence-evidence.ensures.is_final
      | in-Malformed w ↦ malformed-agrees c.args.model c.args.fed.now c.args.verdict.now c.in_ok-copy.field-0
          c.match-verdict.evidence.now c.from.result
          c.in_ok-copy.ensures c.from.ensures own begun w.in-Malformed.malformed w.in-Malformed.is
          (ap (λ e. e.now) w.evidence-is ∙ w.evidence-evidence-in-Malformed.ensures.value)
          w.evidence-evidence-in-Malformed.ensures.malformed
    ]
