use Rattle.rv_hart.proofs.Common.{List, ℕ, [], length, refl, ap, Hart}
use Rattle.rv_hart.proofs.GrownHart.{carried-none, kept_from, hart-none, rows-none}
use Rattle.rv_hart.proofs.kept.Kept.new.Goals as goal

pub returns-clause-kept : goal.returns-clause-kept
returns-clause-kept c =
    let h : Hart = record { model = c.args.model; number = c.args.number; events = [] } in
    kept_from [] _ h refl (hart-none c.args.model c.args.number)
    (rows-none c.args.model c.args.number c.new-rows.result c.new-rows.ensures)
    (ap (λ (rs : List (List ℕ)). length rs) c.new-rows.ensures)
    (carried-none c.new-carried.result c.new-carried.ensures) (c.new-sets.ensures h refl)
    (c.new-words.ensures [] refl)
