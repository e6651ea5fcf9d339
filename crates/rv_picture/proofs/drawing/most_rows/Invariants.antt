use Rattle.std.proofs.Common.{◌≡◌, drop}
use Rattle.rv_explain.specs.Layout.{greater}
use Rattle.rv_picture.specs.Pictures.{most_rows}
use Rattle.rv_picture.proofs.drawing.most_rows.Given as goal

-- the most of those so far and those that are left
abbrev pub invariant-columns : goal.invariant-columns
invariant-columns l = most_rows l.columns ≡ greater l.most (most_rows (drop l.column-index l.columns))
