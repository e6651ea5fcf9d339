use Rattle.std.proofs.Common.{◌∷◌, [], List, ℕ, sym, ap, ◌∙◌, subst}
use Rattle.rv_rows.specs.Flat.{AreLaid, rows_of}
use Rattle.rv_rows.proofs.Laying.{rows_longer}
use Rattle.rv_rows.proofs.rows.Rows.settle.Goals as goal

pub invariant_of-self : goal.invariant_of-self
invariant_of-self c =
    subst (λ (xs : List ℕ). AreLaid xs c.self.inside.words.items c.self.inside.places.items)
    (sym c.in_err-push.ensures.items) c.self.invariant

pub returns-in_ok-push : goal.returns-in_ok-push
returns-in_ok-push c =
    ap (λ (xs : List ℕ). rows_of xs c.self.inside.words.items c.self.inside.places.items) c.in_ok-push.ensures.items
    ∙ rows_longer c.self.inside.stem.items (c.self.inside.block ∷ []) c.self.inside.words.items
    c.self.inside.places.items c.self.invariant
    ∙ c.self.view_is
