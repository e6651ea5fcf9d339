use Rattle.std.proofs.Common.{◌≡◌, ◌==◌, take}
use Rattle.std.specs.List.{count_by}
use Rattle.rv_explain.proofs.shown.row_of.Given as goal

abbrev pub invariant-entries : goal.invariant-entries
invariant-entries l = l.row ≡ count_by (λ x. l.source == x.source) (take l.entry-index l.entry-items)
