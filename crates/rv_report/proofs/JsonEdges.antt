-- The edges of a circle as JSON, one more at a time.
use Rattle.std.proofs.lemmas.Grind.{common_steps}
use Rattle.std.proofs.Common.{◌≡◌, ◌∙◌, ◌∷◌, List, [], ◌++◌, length, sym, arith, map}
use Rattle.std.proofs.lemmas.List.{append-nil}
use Rattle.serde_json.specs.View.{view}
use Rattle.serde_json.specs.declared.value.Value.{Value}
use Rattle.rv_event.specs.declared.event.Id.{Id}
use Rattle.rv_event.specs.declared.reason.Reason.{Reason}
use Rattle.rv_cert.specs.Certificates.{start_of}
use Rattle.rv_report.specs.JsonData.{edge_data, walk_data, edges_data}

-- one edge more of a circle's JSON
pub data_more : (now next : List Value) (v : Value) (rest after all : List (Id × Reason)) (step : Id × Reason)
    (to end : Id) → map view now ++ walk_data rest end ≡ walk_data all end
    → rest ≡ step ∷ after → to ≡ start_of after end → view v ≡ edge_data step.0 step.1 to → next ≡ now ++ (v ∷ [])
    → map view next ++ walk_data after end ≡ walk_data all end
unfolding walk_data
data_more now next v rest after all step to end h e t w n = grind (arith, common_steps)

-- all its edges
pub data_done : (now : List Value) (rest all : List (Id × Reason)) (first : Id × Reason)
    (after : List (Id × Reason)) (end : Id)
    → map view now ++ walk_data rest end ≡ walk_data all end → length rest ≡ 0 → all ≡ first ∷ after → end ≡ first.0
    → map view now ≡ edges_data all
unfolding walk_data
data_done now [] all first after end h z e f = rw e (sym (append-nil (map view now)) ∙ rw (e, f) at h)
data_done now (step ∷ rest) all first after end h z e f = absurd (omega arith)
