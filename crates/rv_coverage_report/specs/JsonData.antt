-- What is told beside a report, as the data of a JSON value.
use Rattle.std.specs.Prelude.{ℕ, List, [], ◌∷◌, Option, Some, None, codes, map, option_map}
use Rattle.serde_json.specs.Data.{Data, Members, string, array, object, member, no_members, put}
use Rattle.serde_json.specs.View.{items_of}
use Rattle.serde_json.specs.Written.{compact_text}
use Rattle.rv_coverage.specs.Features.{feature_text}
use Rattle.rv_coverage.specs.declared.coverage.Coverage.{Coverage}
use Rattle.rv_coverage.specs.declared.feature.Count.{Count}
use Rattle.rv_coverage.specs.declared.waiting.Wait.{Wait}
use Rattle.rv_replay.specs.declared.strength.Strength.{Strength}
use Rattle.rv_report.specs.JsonData.{id_data, report_data, whole_number}
use Rattle.rv_report.specs.declared.outcome.Outcome.{Outcome}
use Rattle.rv_report.specs.declared.outcome.Outcome.TheVariants as outcome

-- members, with each count under its name
abbrev pub counted : List Count → Members → Members
counted [] ms = ms
counted (c ∷ counts) ms = counted counts (put (feature_text c.feature) (whole_number c.count) ms)

abbrev pub counts_data : List Count → Data
counts_data counts = object (counted counts no_members)

abbrev pub wait_data : Wait → Data
wait_data w =
    object (member (codes "event") (id_data w.id)
    (member (codes "version") (whole_number w.version)
    (member (codes "word") (whole_number w.word) no_members)))

abbrev pub coverage_data : Coverage → Data
coverage_data c =
    object (member (codes "events") (counts_data c.events.items)
    (member (codes "harts") (whole_number c.harts)
    (member (codes "links") (counts_data c.links.items)
    (member (codes "pairs") (whole_number c.pairs)
    (member (codes "reads") (counts_data c.reads.items)
    (member (codes "waiting") (array (items_of (map wait_data c.waiting.items))) no_members))))))

abbrev pub strength_data : Strength → Data
strength_data s =
    object (member (codes "refused") (whole_number s.refused)
    (member (codes "tried") (whole_number s.tried) no_members))

-- the members of the report of accepted events
abbrev pub allowed_members : ℕ → ℕ → ℕ → Members
allowed_members events operations waiting =
    member (codes "events") (whole_number events)
    (member (codes "operations") (whole_number operations)
    (member (codes "outcome") (string (codes "allowed"))
    (member (codes "waiting") (whole_number waiting) no_members)))

-- with one more, if it is told
abbrev pub and_told : List ℕ → Option Data → Members → Members
and_told name None ms = ms
and_told name (Some d) ms = put name d ms

-- The report of accepted events, with what they have exercised, what their run lacks, and how much
-- their loads test, where these are told. That of another outcome has nothing more.
abbrev pub told_data : Outcome → Option Coverage → Option (List ℕ) → Option Strength → Data
told_data (outcome.Allowed events operations waiting) c incomplete s =
    object (and_told (codes "strength") (option_map strength_data s)
    (and_told (codes "incomplete") (option_map string incomplete)
    (and_told (codes "coverage") (option_map coverage_data c) (allowed_members events operations waiting))))
told_data (outcome.Forbidden f) c incomplete s = report_data (outcome.Forbidden f)
told_data (outcome.Malformed m) c incomplete s = report_data (outcome.Malformed m)

-- its compact text
abbrev pub told_json_text : Outcome → Option Coverage → Option (List ℕ) → Option Strength → List ℕ
told_json_text o c incomplete s = compact_text (told_data o c incomplete s)
