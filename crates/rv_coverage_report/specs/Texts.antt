-- The lines of a coverage, byte by byte. The format is this project's own.
use Rattle.std.specs.Prelude.{ℕ, Bool, true, List, [], codes, decimal, nat_lt, if◌then◌else◌}
use Rattle.std.specs.List.{flat_map}
use Rattle.rv_event.specs.Texts.{◌⋯◌}
use Rattle.rv_coverage.specs.Features.{feature_text}
use Rattle.rv_coverage.specs.Waits.{wait_text}
use Rattle.rv_coverage.specs.declared.coverage.Coverage.{Coverage}
use Rattle.rv_coverage.specs.declared.feature.Count.{Count}
use Rattle.rv_coverage.specs.declared.waiting.Wait.{Wait}
use Rattle.rv_coverage_report.specs.declared.text.Extent.{Extent}
use Rattle.rv_coverage_report.specs.declared.text.Extent.TheVariants.{All, Met}

abbrev pub is_told : Extent → ℕ → Bool
is_told Met count = nat_lt 0 count
is_told All count = true

-- GROUP FEATURE: COUNT
abbrev pub count_line : List ℕ → Extent → Count → List ℕ
count_line group extent c =
    if is_told extent c.count then
    codes "  " ⋯ group ⋯ codes " " ⋯ feature_text c.feature ⋯ codes ": " ⋯ decimal c.count ⋯ codes "\n"
    else []

abbrev pub counts_text : List ℕ → Extent → List Count → List ℕ
counts_text group extent counts = flat_map (count_line group extent) counts

abbrev pub waits_text : List Wait → List ℕ
waits_text waits = flat_map (λ w. codes "  " ⋯ wait_text w ⋯ codes "\n") waits

abbrev pub numbers_text : ℕ → ℕ → List ℕ
numbers_text harts pairs =
    codes "  harts: " ⋯ decimal harts ⋯ codes "\n  pairs of harts' operations on one word: " ⋯ decimal pairs
    ⋯ codes "\n"

-- an empty line, a heading, the counts that are told and the loads that wait
abbrev pub coverage_text : Extent → Coverage → List ℕ
coverage_text extent c =
    codes "\ncoverage:\n" ⋯ counts_text (codes "event") extent c.events.items
    ⋯ counts_text (codes "link") extent c.links.items ⋯ counts_text (codes "read from") extent c.reads.items
    ⋯ numbers_text c.harts c.pairs ⋯ waits_text c.waiting.items
