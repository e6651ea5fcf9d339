-- The line of JSON that a trace of a list comes to. The format is this project's own.
use Rattle.std.specs.Prelude.{ℕ, List, Option, Some, None, codes, map}
use Rattle.serde_json.specs.Data.{Data, Members, array, member, no_members, object, put, string}
use Rattle.serde_json.specs.View.{items_of}
use Rattle.serde_json.specs.Written.{compact_text}
use Rattle.rv_report.specs.JsonData.{whole_number}

-- the names of its files, and the status that it comes to
abbrev pub trace_members : List (List ℕ) → ℕ → Members
trace_members names status =
    member (codes "status") (whole_number status)
    (member (codes "trace") (array (items_of (map string names))) no_members)

-- with a report, or with what is wrong
abbrev pub line_data : List ℕ → Data → List (List ℕ) → ℕ → Data
line_data name what names status = object (put name what (trace_members names status))

-- with a number more, if it is known
abbrev pub and_number : List ℕ → Option ℕ → Members → Members
and_number name None ms = ms
and_number name (Some n) ms = put name (whole_number n) ms

-- what is wrong: the source, the row and the fault as far as they are known, and words
abbrev pub failure_data : (source row fault : Option ℕ) → List ℕ → Data
failure_data source row fault text =
    object (and_number (codes "fault") fault (and_number (codes "row") row (and_number (codes "source") source
    (member (codes "text") (string text) no_members))))

abbrev pub judged_text : List (List ℕ) → ℕ → Data → List ℕ
judged_text names status report = compact_text (line_data (codes "report") report names status)

abbrev pub failed_text : List (List ℕ) → ℕ → Data → List ℕ
failed_text names status failure = compact_text (line_data (codes "fault") failure names status)
