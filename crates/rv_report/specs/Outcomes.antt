-- Outcomes and verdicts.
use Rattle.rv_cert.specs.declared.verdict.Verdict.{Verdict}
use Rattle.rv_cert.specs.declared.verdict.Verdict.TheVariants as verdict
use Rattle.rv_report.specs.declared.outcome.Outcome.{Outcome}
use Rattle.rv_report.specs.declared.outcome.Outcome.TheVariants as outcome

-- the outcome of a refusal
abbrev pub outcome_of : Verdict → Outcome
outcome_of (verdict.Forbidden f) = outcome.Forbidden f
outcome_of (verdict.Malformed m) = outcome.Malformed m
