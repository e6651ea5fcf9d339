use Rattle.std.proofs.Common.{◌≡◌, length, map, string_bytes}
use Rattle.rv_explain.specs.Layout.{greater, widest}
use Rattle.rv_explain.proofs.layout.widest.Given as goal

abbrev pub invariant-lines : goal.invariant-lines
invariant-lines l = widest (map string_bytes l.lines) ≡ greater l.width (widest (map string_bytes l.rest))

abbrev pub decreases-lines : goal.decreases-lines
decreases-lines l = length l.rest
