use Rattle.std.proofs.Common.{◌≡◌, ◌++◌, string_bytes, take}
use Rattle.rv_coverage_report.specs.Texts.{waits_text}
use Rattle.rv_coverage_report.proofs.text.push_waits.Given as goal

-- the lines so far
abbrev pub invariant-waits : goal.invariant-waits
invariant-waits l =
    string_bytes l.text ≡ string_bytes l.initial.text ++ waits_text (take l.wait-index l.waits)
