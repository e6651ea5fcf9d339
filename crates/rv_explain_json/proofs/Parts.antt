-- Explanations of equal parts.
use Rattle.std.proofs.Common.{◌≡◌, ◌∙◌, ap}
use Rattle.serde_json.specs.Data.{Data, Items}
use Rattle.rv_explain_json.specs.Explained.{with_pair}

-- two with a stale pair
pub pairs : {c d s u : Items} {r q t v : Data} → c ≡ d → r ≡ q → s ≡ u → t ≡ v →
    with_pair c r s t ≡ with_pair d q u v
pairs {c} {d} {s} {u} {r} {q} {t} {v} columns refused sources stale =
    ap (λ (x : Items). with_pair x r s t) columns
    ∙ ap (λ (x : Data). with_pair d x s t) refused
    ∙ ap (λ (x : Items). with_pair d q x t) sources
    ∙ ap (λ (x : Data). with_pair d q u x) stale
