use Rattle.std.proofs.Common.{◌≡◌, ◌++◌, length, string_bytes}
use Rattle.rv_explain.specs.Layout.{blocks_text, lines_below}
use Rattle.rv_explain.proofs.layout.push_below.Given as goal

abbrev pub invariant-each : goal.invariant-each
invariant-each l =
    string_bytes l.text ++ lines_below (blocks_text l.rest) ≡
    string_bytes l.initial.text ++ lines_below (blocks_text l.blocks)

abbrev pub decreases-each : goal.decreases-each
decreases-each l = length l.rest
