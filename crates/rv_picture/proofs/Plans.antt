-- Plans of equal parts.
use Rattle.std.proofs.Common.{◌≡◌, ◌∙◌, List, ℕ, String, ap}
use Rattle.std.specs.Global.{Global}
use Rattle.rv_explain.specs.declared.shown.Column.{Column}
use Rattle.rv_picture.specs.Pictures.{Plan}
use Rattle.rv_picture.specs.declared.arrow.Arrow.{Arrow}

-- a plan of these parts
abbrev plan : List (String Global) → ℕ → List Column → ℕ → List Arrow → List (List ℕ) → List (List ℕ) → Plan
plan names refused columns width arrows title notes = record {
  names = names;
  refused = refused;
  width = width;
  columns = columns;
  arrows = arrows;
  title = title;
  notes = notes;
}

-- plans with the same names and refused event are equal where their other parts are
pub plans : (names : List (String Global)) (refused : ℕ) {cs ds : List Column} {w v : ℕ} {rs bs : List Arrow}
    {t u n m : List (List ℕ)} → cs ≡ ds → w ≡ v → rs ≡ bs → t ≡ u → n ≡ m →
    plan names refused cs w rs t n ≡ plan names refused ds v bs u m
plans names refused {cs} {ds} {w} {v} {rs} {bs} {t} {u} {n} {m} c x a p q =
    ap (λ (y : List Column). plan names refused y w rs t n) c
    ∙ ap (λ (y : ℕ). plan names refused ds y rs t n) x
    ∙ ap (λ (y : List Arrow). plan names refused ds v y t n) a
    ∙ ap (λ (y : List (List ℕ)). plan names refused ds v bs y n) p
    ∙ ap (λ (y : List (List ℕ)). plan names refused ds v bs u y) q
