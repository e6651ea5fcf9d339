-- The report of an outcome as compact JSON: one object, its keys in ascending order. The format is
-- this project's own.
use Rattle.std.specs.Prelude.{ℕ, List, [], ◌∷◌, codes, decimal}
use Rattle.rv_event.specs.Texts.{◌⋯◌, id_text, reason_text, fault_text, fault_number}
use Rattle.rv_event.specs.declared.event.Id.{Id}
use Rattle.rv_event.specs.declared.reason.Reason.{Reason}
use Rattle.rv_cert.specs.declared.certificate.Certificate.{Certificate}
use Rattle.rv_cert.specs.declared.certificate.Certificate.TheVariants as certificate
use Rattle.rv_report.specs.Texts.{refused_text, accepted_count}
use Rattle.rv_report.specs.declared.outcome.Outcome.{Outcome}
use Rattle.rv_report.specs.declared.outcome.Outcome.TheVariants as outcome

-- ---- objects, from the texts of their parts
abbrev pub allowed_json : ℕ → ℕ → ℕ → List ℕ
allowed_json events operations waiting =
    codes "{\"events\":" ⋯ decimal events ⋯ codes ",\"operations\":" ⋯ decimal operations
    ⋯ codes ",\"outcome\":\"allowed\",\"waiting\":" ⋯ decimal waiting ⋯ codes "}"

abbrev pub forbidden_json : ℕ → List ℕ → List ℕ → List ℕ
forbidden_json after why event =
    codes "{\"after\":" ⋯ decimal after ⋯ codes ",\"certificate\":" ⋯ why
    ⋯ codes ",\"event\":\"" ⋯ event ⋯ codes "\",\"outcome\":\"forbidden\"}"

abbrev pub malformed_json : ℕ → List ℕ → ℕ → List ℕ → List ℕ
malformed_json after event number text =
    codes "{\"after\":" ⋯ decimal after ⋯ codes ",\"event\":\"" ⋯ event ⋯ codes "\",\"fault\":" ⋯ decimal number
    ⋯ codes ",\"outcome\":\"malformed\",\"text\":\"" ⋯ text ⋯ codes "\"}"

abbrev pub edge_json : List ℕ → List ℕ → List ℕ → List ℕ
edge_json from reason to =
    codes "{\"from\":\"" ⋯ from ⋯ codes "\",\"reason\":\"" ⋯ reason ⋯ codes "\",\"to\":\"" ⋯ to ⋯ codes "\"}"

abbrev pub stale_json : List ℕ → List ℕ → List ℕ
stale_json load store = codes "{\"stale\":{\"load\":\"" ⋯ load ⋯ codes "\",\"store\":\"" ⋯ store ⋯ codes "\"}}"

abbrev pub circle_json : List ℕ → List ℕ
circle_json edges = codes "{\"circle\":[" ⋯ edges ⋯ codes "]}"

-- ---- certificates
-- the edges of a walk through these steps that leads to the end, with commas between
unfoldable pub walk_json : List (Id × Reason) → Id → List ℕ
walk_json [] end = []
walk_json (step ∷ []) end = edge_json (id_text step.0) (reason_text step.1) (id_text end)
walk_json (step ∷ next ∷ rest) end =
    edge_json (id_text step.0) (reason_text step.1) (id_text next.0) ⋯ codes "," ⋯ walk_json (next ∷ rest) end

-- the last edge of a circle leads to its first step
abbrev pub edges_json : List (Id × Reason) → List ℕ
edges_json [] = []
edges_json (step ∷ rest) = walk_json (step ∷ rest) step.0

abbrev pub certificate_json : Certificate → List ℕ
certificate_json (certificate.Circle steps) = circle_json (edges_json steps)
certificate_json (certificate.Stale load store) = stale_json (id_text load) (id_text store)

-- ---- the report of an outcome
abbrev pub json_text : Outcome → List ℕ
json_text (outcome.Allowed events operations waiting) = allowed_json events operations waiting
json_text (outcome.Forbidden f) =
    forbidden_json (accepted_count f.evidence) (certificate_json f.certificate) (refused_text f.evidence)
json_text (outcome.Malformed m) =
    malformed_json (accepted_count m.evidence) (refused_text m.evidence) (fault_number m.fault) (fault_text m.fault)
