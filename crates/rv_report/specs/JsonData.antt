-- The report of an outcome as the data of a JSON value.
use Rattle.std.specs.Prelude.{ℕ, List, [], ◌∷◌, codes}
use Rattle.serde_json.specs.Data.{Data, number, unsigned, string, array, object, member, no_members}
use Rattle.serde_json.specs.View.{items_of}
use Rattle.rv_event.specs.Texts.{id_text, reason_text, fault_text, fault_number}
use Rattle.rv_event.specs.declared.event.Id.{Id}
use Rattle.rv_event.specs.declared.fault.Fault.{Fault}
use Rattle.rv_event.specs.declared.reason.Reason.{Reason}
use Rattle.rv_cert.specs.Certificates.{start_of}
use Rattle.rv_cert.specs.declared.certificate.Certificate.{Certificate}
use Rattle.rv_cert.specs.declared.certificate.Certificate.TheVariants as certificate
use Rattle.rv_report.specs.Texts.{refused_text, accepted_count}
use Rattle.rv_report.specs.declared.outcome.Outcome.{Outcome}
use Rattle.rv_report.specs.declared.outcome.Outcome.TheVariants as outcome

abbrev pub whole_number : ℕ → Data
whole_number n = number (unsigned n)

abbrev pub id_data : Id → Data
id_data i = string (id_text i)

abbrev pub allowed_data : ℕ → ℕ → ℕ → Data
allowed_data events operations waiting =
    object (member (codes "events") (whole_number events)
    (member (codes "operations") (whole_number operations)
    (member (codes "outcome") (string (codes "allowed"))
    (member (codes "waiting") (whole_number waiting) no_members))))

abbrev pub edge_data : Id → Reason → Id → Data
edge_data from reason to =
    object (member (codes "from") (id_data from)
    (member (codes "reason") (string (reason_text reason))
    (member (codes "to") (id_data to) no_members)))

-- the edges of a walk through these steps that leads to the end
unfoldable pub walk_data : List (Id × Reason) → Id → List Data
walk_data [] end = []
walk_data (step ∷ rest) end = edge_data step.0 step.1 (start_of rest end) ∷ walk_data rest end

-- the last edge of a circle leads to its first step
abbrev pub edges_data : List (Id × Reason) → List Data
edges_data [] = []
edges_data (step ∷ rest) = walk_data (step ∷ rest) step.0

abbrev pub circle_data : List Data → Data
circle_data edges = object (member (codes "circle") (array (items_of edges)) no_members)

abbrev pub stale_data : Id → Id → Data
stale_data load store =
    object (member (codes "stale") (object (member (codes "load") (id_data load)
    (member (codes "store") (id_data store) no_members))) no_members)

abbrev pub certificate_data : Certificate → Data
certificate_data (certificate.Circle steps) = circle_data (edges_data steps)
certificate_data (certificate.Stale load store) = stale_data load store

abbrev pub forbidden_data : ℕ → Data → List ℕ → Data
forbidden_data after why refused =
    object (member (codes "after") (whole_number after)
    (member (codes "certificate") why
    (member (codes "event") (string refused)
    (member (codes "outcome") (string (codes "forbidden")) no_members))))

abbrev pub malformed_data : ℕ → List ℕ → Fault → Data
malformed_data after refused fault =
    object (member (codes "after") (whole_number after)
    (member (codes "event") (string refused)
    (member (codes "fault") (whole_number (fault_number fault))
    (member (codes "outcome") (string (codes "malformed"))
    (member (codes "text") (string (fault_text fault)) no_members)))))

-- the report of an outcome
abbrev pub report_data : Outcome → Data
report_data (outcome.Allowed events operations waiting) = allowed_data events operations waiting
report_data (outcome.Forbidden f) =
    forbidden_data (accepted_count f.evidence) (certificate_data f.certificate) (refused_text f.evidence)
report_data (outcome.Malformed m) = malformed_data (accepted_count m.evidence) (refused_text m.evidence) m.fault
