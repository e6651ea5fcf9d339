use Rattle.std.proofs.Common.{◌≡◌, ◌++◌, string_bytes}
use Rattle.rv_explain.specs.Layout.{blocks_text, lines_beside}
use Rattle.rv_explain.proofs.layout.push_beside.Given as goal

abbrev pub invariant-lines : goal.invariant-lines
invariant-lines l =
    string_bytes l.text ≡ string_bytes l.initial.text ++ lines_beside l.number (blocks_text l.blocks)
