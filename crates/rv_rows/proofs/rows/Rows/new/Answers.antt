use Rattle.std.proofs.Common.{List, ◌∙◌, map, ap}
use Rattle.rv_rows.specs.Flat.{row_at}
use Rattle.rv_rows.specs.declared.rows.Place.{Place}
use Rattle.rv_rows.proofs.Laying.{rows_are}
use Rattle.rv_rows.proofs.rows.Rows.new.Goals as goal

pub returns : goal.returns
returns c = rows_are c.new-3.result.items c.new.result.items c.new-2.result.items ∙
    ap (λ (ps : List Place). map (row_at c.new-3.result.items c.new.result.items) ps) c.new-2.ensures.items
