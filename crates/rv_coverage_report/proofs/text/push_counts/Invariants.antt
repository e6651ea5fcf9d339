use Rattle.std.proofs.Common.{◌≡◌, ◌++◌, string_bytes, take}
use Rattle.rv_coverage_report.specs.Texts.{counts_text}
use Rattle.rv_coverage_report.proofs.text.push_counts.Given as goal

-- the lines so far
abbrev pub invariant-counts : goal.invariant-counts
invariant-counts l =
    string_bytes l.text
    ≡ string_bytes l.initial.text ++ counts_text l.group l.extent (take l.counted-index l.counts)
