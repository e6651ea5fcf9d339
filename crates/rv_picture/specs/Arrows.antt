-- The arrows of a picture: one for each step, and the way that it takes.
use Rattle.std.specs.Prelude.{ℕ, ◌+◌, ◌-◌, ◌*◌, ◌%◌, ◌==◌, List, [], ◌∷◌, Bool, true, false, codes, decimal, map}
use Rattle.std.specs.Prelude.{if◌then◌else◌, nat_lt}
use Rattle.rv_event.specs.Texts.{◌⋯◌, reason_text}
use Rattle.rv_explain.specs.declared.explanation.Cause.{Cause}
use Rattle.rv_explain.specs.declared.explanation.Cause.TheVariants as cause
use Rattle.rv_explain.specs.declared.shown.Column.{Column}
use Rattle.rv_explain.specs.declared.step.Step.{Step}
use Rattle.rv_picture.specs.Measures.{box_left, box_right, box_top, spot_of}
use Rattle.rv_picture.specs.declared.arrow.Arrow.{Arrow}
use Rattle.rv_picture.specs.declared.arrow.Tag.{Tag}
use Rattle.rv_picture.specs.declared.arrow.Tag.TheVariants.{Edge, Stale}
use Rattle.rv_picture.specs.declared.arrow.Route.{Route}
use Rattle.rv_picture.specs.declared.arrow.Route.TheVariants.{Beside, Next, Previous, Forward, Backward}
use Rattle.rv_picture.specs.declared.grid.Spot.{Spot}

-- ---- which arrows there are
abbrev pub arrow_of : List Column → Step → Arrow
arrow_of columns s = record {
  from = spot_of columns s.from.now.id;
  to = spot_of columns s.to.now.id;
  tag = Edge s.reason;
}

-- one for each step of a cycle, or one from the store of a stale pair to its load
abbrev pub arrows_of : List Column → Cause → List Arrow
arrows_of columns (cause.Cycle steps) = map (arrow_of columns) steps.items
arrows_of columns (cause.Stale load store) =
    record { from = spot_of columns store.now.id; to = spot_of columns load.now.id; tag = Stale } ∷ []

-- ---- their ways
-- where an arrow leaves a box of the row, and where one enters
abbrev pub leaving : ℕ → ℕ
leaving row = box_top row + 32

abbrev pub entering : ℕ → ℕ
entering row = box_top row + 12

-- how far from a box of the row an arrow runs that leaves or enters it sideways
abbrev pub track_of : ℕ → ℕ
track_of row = 14 + 8 * (row % 4)

-- between which columns an arrow runs
abbrev pub route_of : ℕ → ℕ → Route
route_of from to =
    if from == to then Beside
    else if nat_lt from to then (if to - from == 1 then Next else Forward)
    else if from - to == 1 then Previous
    else Backward

-- the height at which an arrow from the column to another runs, above the row that it leads to
abbrev pub lane_of : ℕ → ℕ → ℕ
lane_of column row = box_top row - (6 + 3 * (column % 14))

-- straight from one side to another
abbrev pub straight_text : ℕ → ℕ → ℕ → ℕ → List ℕ
straight_text x y to_x to_y =
    codes "M" ⋯ decimal x ⋯ codes " " ⋯ decimal y ⋯ codes "L" ⋯ decimal to_x ⋯ codes " " ⋯ decimal to_y

-- sideways, then up or down, then sideways
abbrev pub beside_text : ℕ → ℕ → ℕ → ℕ → List ℕ
beside_text x y turn to_y =
    codes "M" ⋯ decimal x ⋯ codes " " ⋯ decimal y ⋯ codes "H" ⋯ decimal turn ⋯ codes "V" ⋯ decimal to_y ⋯ codes "H"
    ⋯ decimal x

-- beside one column, then along a lane, then beside another column
abbrev pub around_text : ℕ → ℕ → ℕ → ℕ → ℕ → ℕ → ℕ → List ℕ
around_text x y turn lane to_turn to_y to_x =
    codes "M" ⋯ decimal x ⋯ codes " " ⋯ decimal y ⋯ codes "H" ⋯ decimal turn ⋯ codes "V" ⋯ decimal lane ⋯ codes "H"
    ⋯ decimal to_turn ⋯ codes "V" ⋯ decimal to_y ⋯ codes "H" ⋯ decimal to_x

-- the way of an arrow between boxes of this width
abbrev pub way_text : ℕ → Route → Spot → Spot → List ℕ
way_text width Beside a b =
    beside_text (box_left width a.column) (leaving a.row) (box_left width a.column - track_of a.row) (entering b.row)
way_text width Next a b =
    straight_text (box_right width a.column) (leaving a.row) (box_left width b.column) (entering b.row)
way_text width Previous a b =
    straight_text (box_left width a.column) (leaving a.row) (box_right width b.column) (entering b.row)
way_text width Forward a b =
    around_text (box_right width a.column) (leaving a.row) (box_right width a.column + track_of a.row)
    (lane_of a.column b.row) (box_left width b.column - (track_of b.row + 4)) (entering b.row) (box_left width b.column)
way_text width Backward a b =
    around_text (box_left width a.column) (leaving a.row) (box_left width a.column - track_of a.row)
    (lane_of a.column b.row) (box_right width b.column + (track_of b.row + 4)) (entering b.row)
    (box_right width b.column)

-- an arrow
abbrev pub path_text : ℕ → Arrow → List ℕ
path_text width a =
    codes "<path d=\"" ⋯ way_text width (route_of a.from.column a.to.column) a.from a.to ⋯ codes "\"/>\n"

-- ---- their labels
abbrev pub tag_text : Tag → List ℕ
tag_text (Edge reason) = reason_text reason
tag_text Stale = codes "stale"

-- a number and a reason, which begins at a place, or else ends there
abbrev pub words_text : Bool → ℕ → ℕ → ℕ → Tag → List ℕ
words_text true x y number tag =
    codes "<text x=\"" ⋯ decimal x ⋯ codes "\" y=\"" ⋯ decimal y ⋯ codes "\">" ⋯ decimal number ⋯ codes " "
    ⋯ tag_text tag ⋯ codes "</text>\n"
words_text false x y number tag =
    codes "<text x=\"" ⋯ decimal x ⋯ codes "\" y=\"" ⋯ decimal y ⋯ codes "\" text-anchor=\"end\">" ⋯ decimal number
    ⋯ codes " " ⋯ tag_text tag ⋯ codes "</text>\n"

-- a label begins on the right of the box that its arrow leaves there, and else ends on the left of it
abbrev pub begins : Route → Bool
begins Beside = false
begins Next = true
begins Previous = false
begins Forward = true
begins Backward = false

abbrev pub label_x : ℕ → Route → Spot → ℕ
label_x width Beside a = box_left width a.column - track_of a.row - 4
label_x width Next a = box_right width a.column + 6
label_x width Previous a = box_left width a.column - 6
label_x width Forward a = box_right width a.column + track_of a.row + 4
label_x width Backward a = box_left width a.column - track_of a.row - 4

-- by a straight arrow, above one that leads down and below another
abbrev pub slope_y : ℕ → ℕ → ℕ
slope_y row to_row = if nat_lt row to_row then leaving row - 5 else leaving row + 14

-- and by others so that the labels of two columns stand clear of one another
abbrev pub label_y : Route → ℕ → ℕ → ℕ
label_y Beside row to_row = leaving row + 4
label_y Next row to_row = slope_y row to_row
label_y Previous row to_row = slope_y row to_row
label_y Forward row to_row = leaving row - 8
label_y Backward row to_row = leaving row + 4

abbrev pub label_on : Route → ℕ → ℕ → Arrow → List ℕ
label_on route width number a =
    words_text (begins route) (label_x width route a.from) (label_y route a.from.row a.to.row) number a.tag

-- a number and a reason, by the box that the arrow leaves
abbrev pub label_text : ℕ → ℕ → Arrow → List ℕ
label_text width number a = label_on (route_of a.from.column a.to.column) width number a
