-- The lines of a circle, one more at a time.
use Rattle.std.proofs.lemmas.Grind.{common_steps}
use Rattle.std.proofs.Common.{◌≡◌, ◌∙◌, ◌∷◌, ℕ, List, [], ◌++◌, length, sym, arith}
use Rattle.std.proofs.lemmas.List.{append-nil}
use Rattle.rv_event.specs.declared.event.Id.{Id}
use Rattle.rv_event.specs.declared.reason.Reason.{Reason}
use Rattle.rv_cert.specs.Certificates.{start_of}
use Rattle.rv_report.specs.Texts.{edge_line, edge_lines, circle_lines}

-- one line more of a circle
pub edge_more : (start now next : List ℕ) (rest after all : List (Id × Reason)) (step : Id × Reason) (to end : Id)
    → now ++ edge_lines rest end ≡ start ++ edge_lines all end
    → rest ≡ step ∷ after → to ≡ start_of after end → next ≡ now ++ edge_line step.0 step.1 to
    → next ++ edge_lines after end ≡ start ++ edge_lines all end
unfolding edge_lines
edge_more start now next rest after all step to end h e t n = grind (arith, common_steps)

-- all its lines
pub edges_done : (start now : List ℕ) (rest all : List (Id × Reason)) (first : Id × Reason)
    (after : List (Id × Reason)) (end : Id)
    → now ++ edge_lines rest end ≡ start ++ edge_lines all end → length rest ≡ 0 → all ≡ first ∷ after → end ≡ first.0
    → now ≡ start ++ circle_lines all
unfolding edge_lines
edges_done start now [] all first after end h z e f = rw e (sym (append-nil now) ∙ rw (e, f) at h)
edges_done start now (step ∷ rest) all first after end h z e f = absurd (omega arith)
