-- No number of a line is a float, but for those of what stands in it.
use Rattle.std.proofs.Common.{◌≡◌, ℕ, List, false, refl}
use Rattle.serde_json.specs.Data.{Data, string}
use Rattle.serde_json.specs.Written.{has_float, members_have_float}
use Rattle.rv_report.proofs.Floats.{items-none, put-none}
use Rattle.rv_list.specs.Lines.{line_data, trace_members}

trace_none : (names : List (List ℕ)) (status : ℕ) → members_have_float (trace_members names status) ≡ false
trace_none names status = rw (items-none string (λ name. refl) names) refl

pub line_none : (name : List ℕ) (what : Data) (names : List (List ℕ)) (status : ℕ) → has_float what ≡ false →
    has_float (line_data name what names status) ≡ false
line_none name what names status none = put-none name what (trace_members names status) none (trace_none names status)
