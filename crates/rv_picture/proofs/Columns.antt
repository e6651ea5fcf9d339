-- The longest of columns, one more at a time.
use Rattle.std.proofs.Common.{◌≡◌, ◌∙◌, ◌∷◌, ◌+◌, ◌<◌, ℕ, List, suc, length, drop, drop-cons, get_or, ap, sym, arith}
use Rattle.std.proofs.lemmas.List.{drop_all}
use Rattle.rv_explain.specs.Layout.{greater}
use Rattle.rv_explain.specs.declared.shown.Column.{Column}
use Rattle.rv_picture.specs.Pictures.{most_rows}

greater-assoc : (a b c : ℕ) → greater a (greater b c) ≡ greater (greater a b) c
greater-assoc a b c = omega arith

-- one column more
pub most-next : (all now next place : ℕ) (columns : List Column) (c : Column) → place < length columns →
    c ≡ get_or columns place c → all ≡ greater now (most_rows (drop place columns)) →
    next ≡ greater now (length c.events.items) → all ≡ greater next (most_rows (drop (place + 1) columns))
unfolding most_rows
most-next all now next place columns c low is h e =
    let rest = drop (place + 1) columns in
    let same : suc place ≡ place + 1 = omega arith in
    h ∙ ap (λ (cs : List Column). greater now (most_rows cs))
    (drop-cons columns place c low ∙ ap (λ (k : ℕ). get_or columns place c ∷ drop k columns) same
    ∙ ap (λ (x : Column). x ∷ rest) (sym is))
    ∙ greater-assoc now (length c.events.items) (most_rows rest)
    ∙ ap (λ (n : ℕ). greater n (most_rows rest)) (sym e)

-- at the end all were seen
pub most-all : (all now place : ℕ) (columns : List Column) → (place < length columns → ⊥) →
    all ≡ greater now (most_rows (drop place columns)) → now ≡ all
unfolding most_rows
most-all all now place columns end h =
    let none : all ≡ greater now 0 =
    h ∙ ap (λ (cs : List Column). greater now (most_rows cs)) (drop_all place columns (omega (end, arith))) in
    omega (none, arith)
