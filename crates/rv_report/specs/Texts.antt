-- The report of an outcome as text. The format is this project's own.
use Rattle.std.specs.Prelude.{ℕ, ◌-◌, List, [], ◌∷◌, length, None, option_map, unwrap_or, codes, decimal}
use Rattle.std.specs.List.{last_or}
use Rattle.rv_event.specs.Texts.{◌⋯◌, id_text, reason_text, fault_text, fault_number}
use Rattle.rv_event.specs.declared.event.Id.{Id}
use Rattle.rv_event.specs.declared.event.Entry.{Entry}
use Rattle.rv_event.specs.declared.fault.Fault.{Fault}
use Rattle.rv_event.specs.declared.reason.Reason.{Reason}
use Rattle.rv_cert.specs.Certificates.{start_of}
use Rattle.rv_cert.specs.Refusals.{Refusal, FaultyLog}
use Rattle.rv_cert.specs.declared.certificate.Certificate.{Certificate}
use Rattle.rv_cert.specs.declared.certificate.Certificate.TheVariants as certificate
use Rattle.rv_report.specs.declared.outcome.Outcome.{Outcome}
use Rattle.rv_report.specs.declared.outcome.Outcome.TheVariants as outcome

abbrev pub line_feed : List ℕ
line_feed = codes "\n"

-- the id of the refused entry, which is the last (a refusal has one)
abbrev pub refused_text : List Entry → List ℕ
refused_text evidence = unwrap_or (option_map (λ x. id_text x.event.id) (last_or None evidence)) []

-- how many entries were accepted before it
abbrev pub accepted_count : List Entry → ℕ
accepted_count evidence = length evidence - 1

-- ---- lines
abbrev pub allowed_line : ℕ → ℕ → ℕ → List ℕ
allowed_line events operations waiting =
    codes "allowed: " ⋯ decimal events ⋯ codes " events, " ⋯ decimal operations ⋯ codes " operations, "
    ⋯ decimal waiting ⋯ codes " waiting loads" ⋯ line_feed

abbrev pub forbidden_line : List ℕ → ℕ → List ℕ
forbidden_line refused after =
    codes "forbidden: " ⋯ refused ⋯ codes " after " ⋯ decimal after ⋯ codes " events" ⋯ line_feed

abbrev pub malformed_line : List ℕ → ℕ → Fault → List ℕ
malformed_line refused after fault =
    codes "malformed: " ⋯ refused ⋯ codes " after " ⋯ decimal after ⋯ codes " events: fault "
    ⋯ decimal (fault_number fault) ⋯ codes " " ⋯ fault_text fault ⋯ line_feed

abbrev pub edge_line : Id → Reason → Id → List ℕ
edge_line from reason to = id_text from ⋯ codes " " ⋯ reason_text reason ⋯ codes " " ⋯ id_text to ⋯ line_feed

abbrev pub stale_line : Id → Id → List ℕ
stale_line load store = codes "stale: " ⋯ id_text load ⋯ codes " reads below " ⋯ id_text store ⋯ line_feed

-- ---- certificates
-- the edges of a walk through these steps that leads to the end
unfoldable pub edge_lines : List (Id × Reason) → Id → List ℕ
edge_lines [] end = []
edge_lines (step ∷ rest) end = edge_line step.0 step.1 (start_of rest end) ⋯ edge_lines rest end

-- the last edge of a circle leads to its first step
abbrev pub circle_lines : List (Id × Reason) → List ℕ
circle_lines [] = []
circle_lines (step ∷ rest) = edge_lines (step ∷ rest) step.0

abbrev pub certificate_text : Certificate → List ℕ
certificate_text (certificate.Circle steps) =
    codes "circle of " ⋯ decimal (length steps) ⋯ line_feed ⋯ circle_lines steps
certificate_text (certificate.Stale load store) = stale_line load store

-- ---- outcomes
abbrev pub forbidden_text : Refusal → List ℕ
forbidden_text f = forbidden_line (refused_text f.evidence) (accepted_count f.evidence) ⋯ certificate_text f.certificate

abbrev pub malformed_text : FaultyLog → List ℕ
malformed_text m = malformed_line (refused_text m.evidence) (accepted_count m.evidence) m.fault

-- the report of an outcome
abbrev pub report_text : Outcome → List ℕ
report_text (outcome.Allowed events operations waiting) = allowed_line events operations waiting
report_text (outcome.Forbidden f) = forbidden_text f
report_text (outcome.Malformed m) = malformed_text m
