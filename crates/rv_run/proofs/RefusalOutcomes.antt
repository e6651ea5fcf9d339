-- Verdicts as outcomes that agree with what was read.
use Rattle.rv_run.proofs.Common.{arith, common_steps, ◌≡◌, List, sym, ap, ◌∙◌, subst, WellFormed, Entry}
use Rattle.rv_run.proofs.Common.{MemoryModel, Refusal, FaultyLog, IsFinal, IsMalformed, model_of, Verdict}
use Rattle.rv_run.proofs.Common.{outcome_of, Outcome, AgreesWith, IsBegun, Fed}
use Rattle.rv_cert.specs.declared.verdict.Verdict.TheVariants as verdict

module _ (model : MemoryModel) (fed : List Fed) (of copy : Verdict) (evidence : List Entry) (outcome : Outcome)
    (same : copy ≡ of) (out : outcome ≡ outcome_of copy) (own : model_of of ≡ model)
    (begun : IsBegun evidence fed) where
  -- a forbidden verdict agrees with what was read
  pub forbidden-agrees :
      (f : Refusal) → of ≡ verdict.Forbidden f → evidence ≡ f.evidence → WellFormed f.evidence →
      IsFinal f.model f.evidence → AgreesWith model fed outcome
  forbidden-agrees f is log ok final =
      let judged : f.model ≡ model = ap model_of (sym is) ∙ own in
      subst (λ (o : Outcome). AgreesWith model fed o) (sym (out ∙ ap outcome_of (same ∙ is))) (
        judged,
        subst (λ (l : List Entry). IsBegun l fed) log begun,
        ok,
        subst (λ (m : MemoryModel). IsFinal m f.evidence) judged final,
      )

  -- a malformed verdict agrees with what was read
  pub malformed-agrees : (m : FaultyLog) → of ≡ verdict.Malformed m → evidence ≡ m.evidence →
      IsMalformed m.evidence m.fault → AgreesWith model fed outcome
  malformed-agrees m is log bad = grind (arith, common_steps)
