-- The compact text of a report, byte by byte.
use Rattle.std.proofs.Common.{rules, ◌≡◌, ◌∙◌, ℕ, ◌∷◌, [], List, ◌++◌, Bool, true, false, refl, sym, ap, ap₂}
use Rattle.std.proofs.Common.{append_assoc, codes}
use Rattle.json.specs.Print.{escape}
use Rattle.serde_json.specs.Data.{Data, string, array, object, member, no_members, Items}
use Rattle.serde_json.specs.View.{items_of}
use Rattle.serde_json.specs.Written.{compact_text, items_text, comma_if, has_float, items_have_float}
use Rattle.serde_json.proofs.OnLiterals.{serde_json_on_literals}
use Rattle.rv_event.specs.Texts.{◌⋯◌, id_text, reason_text}
use Rattle.rv_event.specs.declared.event.Id.{Id}
use Rattle.rv_event.specs.declared.reason.Reason.{Reason}
use Rattle.rv_cert.specs.declared.certificate.Certificate.{Certificate}
use Rattle.rv_cert.specs.declared.certificate.Certificate.TheVariants as certificate
use Rattle.rv_report.specs.Json.{allowed_json, forbidden_json, malformed_json, edge_json, stale_json, circle_json}
use Rattle.rv_report.specs.Json.{walk_json, edges_json, certificate_json, json_text}
use Rattle.rv_report.specs.JsonData.{whole_number, allowed_data, edge_data, walk_data, edges_data, circle_data}
use Rattle.rv_report.specs.JsonData.{certificate_data, forbidden_data, report_data}
use Rattle.rv_report.specs.declared.outcome.Outcome.{Outcome}
use Rattle.rv_report.proofs.Plain.{escape_id, escape_reason, escape_fault, escape_refused}

-- ---- objects over any texts
allowed_text : (e o w : ℕ) → compact_text (allowed_data e o w) ≡ allowed_json e o w
unfolding serde_json_on_literals
allowed_text e o w = refl

edge_text : (a b c : List ℕ)
    → compact_text (object (member (codes "from") (string a) (member (codes "reason") (string b)
    (member (codes "to") (string c) no_members)))) ≡ edge_json (escape a) (escape b) (escape c)
unfolding serde_json_on_literals
edge_text a b c = simp append_assoc

stale_text : (a b : List ℕ)
    → compact_text (object (member (codes "stale") (object (member (codes "load") (string a)
    (member (codes "store") (string b) no_members))) no_members)) ≡ stale_json (escape a) (escape b)
unfolding serde_json_on_literals
stale_text a b = simp append_assoc

malformed_text : (n f : ℕ) (a b : List ℕ)
    → compact_text (object (member (codes "after") (whole_number n) (member (codes "event") (string a) (member
    (codes "fault") (whole_number f)
    (member (codes "outcome") (string (codes "malformed")) (member (codes "text") (string b) no_members))))))
    ≡ malformed_json n (escape a) f (escape b)
unfolding serde_json_on_literals
malformed_text n f a b = simp append_assoc

forbidden_text : (n : ℕ) (d : Data) (a : List ℕ)
    → compact_text (forbidden_data n d a) ≡ forbidden_json n (compact_text d) (escape a)
unfolding serde_json_on_literals
forbidden_text n d a = simp append_assoc

circle_text : (ds : Items) → compact_text (object (member (codes "circle") (array ds) no_members))
    ≡ codes "{\"circle\":[" ⋯ items_text false ds ⋯ codes "}"
unfolding serde_json_on_literals
circle_text ds = simp append_assoc

-- ---- certificates
edge_law : (from : Id) (reason : Reason) (to : Id)
    → compact_text (edge_data from reason to) ≡ edge_json (id_text from) (reason_text reason) (id_text to)
edge_law from reason to = edge_text (id_text from) (reason_text reason) (id_text to)
    ∙ ap₂ (λ (x y : List ℕ). edge_json x y (escape (id_text to))) (escape_id from) (escape_reason reason)
    ∙ ap (λ (z : List ℕ). edge_json (id_text from) (reason_text reason) z) (escape_id to)

walk_law : (later : Bool) (step : Id × Reason) (rest : List (Id × Reason)) (end : Id)
    → items_text later (items_of (walk_data (step ∷ rest) end)) ≡ comma_if later ++ (walk_json (step ∷ rest)
    end ++ codes "]")
unfolding walk_data walk_json
walk_law later step [] end = ap (λ (x : List ℕ). comma_if later ++ (x ++ codes "]")) (edge_law step.0 step.1 end)
walk_law later step (next ∷ rest) end =
    ap₂ (λ (x y : List ℕ). comma_if later ++ (x ++ y)) (edge_law step.0 step.1 next.0) (walk_law true next rest end)
    ∙ ap (λ (x : List ℕ). comma_if later ++ x)
    (sym (append_assoc (edge_json (id_text step.0) (reason_text step.1) (id_text next.0)) (codes "," ++
    walk_json (next ∷ rest) end) (codes "]")))

circle_law : (steps : List (Id × Reason)) → compact_text (circle_data (edges_data steps)) ≡ circle_json
    (edges_json steps)
unfolding serde_json_on_literals
circle_law steps = search (circle_text, codes, walk_law, append_assoc, rules)

certificate_law : (c : Certificate) → compact_text (certificate_data c) ≡ certificate_json c
certificate_law (certificate.Circle steps) = circle_law steps
certificate_law (certificate.Stale load store) = stale_text (id_text load) (id_text store)
    ∙ ap₂ (λ (x y : List ℕ). stale_json x y) (escape_id load) (escape_id store)

-- ---- outcomes
pub text_of_data : (o : Outcome) → compact_text (report_data o) ≡ json_text o
text_of_data o =
    search (
      allowed_text,
      forbidden_text,
      ap₂,
      certificate_law,
      escape_refused,
      malformed_text,
      escape_fault,
      rules,
    )

-- ---- no number of a report is a float
walk_has_no_float : (steps : List (Id × Reason)) (end : Id) → items_have_float (items_of (walk_data steps end)) ≡ false
unfolding walk_data
walk_has_no_float [] end = refl
walk_has_no_float (step ∷ rest) end = walk_has_no_float rest end

certificate_has_no_float : (c : Certificate) → has_float (certificate_data c) ≡ false
certificate_has_no_float c = search (walk_has_no_float, rules)

-- a report has no float
pub data_has_no_float : (o : Outcome) → has_float (report_data o) ≡ false
data_has_no_float o = search (certificate_has_no_float, rules)
