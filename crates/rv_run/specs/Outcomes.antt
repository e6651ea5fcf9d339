-- Facts for single kinds of outcomes.
use Rattle.std.specs.Prelude.{ℕ, ⊤}
use Rattle.rv_cert.specs.Refusals.{FaultyLog, Refusal}
use Rattle.rv_report.specs.declared.outcome.Outcome.{Outcome}
use Rattle.rv_report.specs.declared.outcome.Outcome.TheVariants.{Allowed, Forbidden, Malformed}

-- where the outcome is allowed, of its counts
abbrev pub IfAllowed : Outcome → (ℕ → ℕ → ℕ → Type 0) → Type 0
IfAllowed (Allowed events operations waiting) P = P events operations waiting
IfAllowed _ P = ⊤

-- where it is forbidden
abbrev pub IfForbidden : Outcome → (Refusal → Type 0) → Type 0
IfForbidden (Forbidden f) P = P f
IfForbidden _ P = ⊤

-- where it is malformed
abbrev pub IfMalformed : Outcome → (FaultyLog → Type 0) → Type 0
IfMalformed (Malformed m) P = P m
IfMalformed _ P = ⊤
