use Rattle.std.proofs.Common.{◌≡◌, ◌++◌, string_bytes, length}
use Rattle.rv_report.specs.Texts.{edge_lines}
use Rattle.rv_report.proofs.text.push_circle.Given as goal

abbrev pub invariant-edges : goal.invariant-edges
invariant-edges l =
    string_bytes l.text ++ edge_lines l.rest l.end ≡ string_bytes l.initial.text ++ edge_lines l.steps l.end

abbrev pub decreases-edges : goal.decreases-edges
decreases-edges l = length l.rest
