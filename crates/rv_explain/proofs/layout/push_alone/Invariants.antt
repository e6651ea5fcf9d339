use Rattle.std.proofs.Common.{◌≡◌, ◌++◌, length, map, string_bytes}
use Rattle.rv_explain.specs.Layout.{lines_alone}
use Rattle.rv_explain.proofs.layout.push_alone.Given as goal

abbrev pub invariant-lines : goal.invariant-lines
invariant-lines l =
    string_bytes l.text ++ lines_alone (map string_bytes l.rest) ≡
    string_bytes l.initial.text ++ lines_alone (map string_bytes l.block)

abbrev pub decreases-lines : goal.decreases-lines
decreases-lines l = length l.rest
