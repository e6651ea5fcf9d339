use Rattle.std.proofs.Common.{◌≡◌, ◌++◌, codes, rules, string_bytes}
use Rattle.rv_coverage_report.specs.Texts.{counts_text, waits_text}
use Rattle.rv_coverage_report.proofs.Parts.{parts}
use Rattle.rv_coverage_report.proofs.text.coverage_text.Goals as goal

pub returns : goal.returns
returns c =
    let events : string_bytes c.push_counts.new.text
    ≡ string_bytes c.in_ok-text.text ++ counts_text (codes "event") c.args.extent c.args.coverage.now.events.items =
    search rules in
    let links : string_bytes c.push_counts-2.new.text
    ≡ string_bytes c.push_counts.new.text ++ counts_text (codes "link") c.args.extent c.args.coverage.now.links.items =
    search rules in
    let reads : string_bytes c.push_counts-3.new.text
    ≡ string_bytes c.push_counts-2.new.text
    ++ counts_text (codes "read from") c.args.extent c.args.coverage.now.reads.items = search rules in
    let waits : string_bytes c.push_waits.new.text
    ≡ string_bytes c.push_numbers.new.text ++ waits_text c.args.coverage.now.waiting.items = search rules in
    parts _ _ _ _ _ _ _ _ _ _ _ _ c.in_ok-text.ensures.ok events links reads c.in_ok-push_numbers.ensures waits
