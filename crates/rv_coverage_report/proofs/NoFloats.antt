-- No number of a coverage is a float.
use Rattle.std.proofs.Common.{◌≡◌, ℕ, List, [], ◌∷◌, Option, Some, None, IfSome, false, refl, option_map}
use Rattle.serde_json.specs.Data.{Data, Members, string}
use Rattle.serde_json.specs.Written.{has_float, members_have_float}
use Rattle.rv_coverage.specs.declared.coverage.Coverage.{Coverage}
use Rattle.rv_coverage.specs.declared.feature.Count.{Count}
use Rattle.rv_coverage.specs.declared.waiting.Wait.{Wait}
use Rattle.rv_replay.specs.declared.strength.Strength.{Strength}
use Rattle.rv_report.proofs.Floats.{items-none, put-none}
use Rattle.rv_report.specs.declared.outcome.Outcome.TheVariants as outcome
use Rattle.rv_coverage_report.specs.JsonData.{and_told, counted, counts_data, coverage_data, strength_data}
use Rattle.rv_coverage_report.specs.JsonData.{told_data, wait_data}

counted-none : (counts : List Count) (ms : Members) → members_have_float ms ≡ false →
    members_have_float (counted counts ms) ≡ false
counted-none [] ms none = none
counted-none (c ∷ counts) ms none = counted-none counts _ (put-none _ _ ms refl none)

counts-none : (counts : List Count) → has_float (counts_data counts) ≡ false
counts-none counts = counted-none counts _ refl

wait-none : (w : Wait) → has_float (wait_data w) ≡ false
wait-none w = refl

-- what a log has exercised
coverage_none : (c : Coverage) → has_float (coverage_data c) ≡ false
coverage_none c =
    rw (
      counts-none c.events.items,
      counts-none c.links.items,
      counts-none c.reads.items,
      items-none wait_data wait-none c.waiting.items,
    ) refl

told_more : (name : List ℕ) (d : Option Data) (ms : Members) → IfSome d (λ x. has_float x ≡ false) →
    members_have_float ms ≡ false → members_have_float (and_told name d ms) ≡ false
told_more name None ms told none = none
told_more name (Some d) ms told none = put-none name d ms told none

covered : (c : Option Coverage) → IfSome (option_map coverage_data c) (λ x. has_float x ≡ false)
covered None = tt
covered (Some c) = coverage_none c

text : (t : Option (List ℕ)) → IfSome (option_map string t) (λ x. has_float x ≡ false)
text None = tt
text (Some t) = refl

tested : (s : Option Strength) → IfSome (option_map strength_data s) (λ x. has_float x ≡ false)
tested None = tt
tested (Some s) = refl

-- what is told beside a report
pub told_none : (events operations waiting : ℕ) (c : Option Coverage) (incomplete : Option (List ℕ)) →
    (s : Option Strength) →
    has_float (told_data (outcome.Allowed events operations waiting) c incomplete s) ≡ false
told_none events operations waiting c incomplete s =
    told_more _ _ _ (tested s) (told_more _ _ _ (text incomplete) (told_more _ _ _ (covered c) refl))
