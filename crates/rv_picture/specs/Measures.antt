-- The measures of a picture, in pixels. Boxes stand on a grid, so that arrows between its columns and
-- rows meet none.
use Rattle.std.specs.Prelude.{ℕ, ◌+◌, ◌*◌, List, Option, Some, None, filter, length, nat_lt, slice_get}
use Rattle.rv_event.specs.declared.event.Id.{Id}
use Rattle.rv_explain.specs.declared.shown.Column.{Column}
use Rattle.rv_explain.specs.declared.shown.Shown.{Shown}
use Rattle.rv_picture.specs.declared.grid.Spot.{Spot}

-- the left side of the boxes of a column: 150 are free before the first, and 240 between two
abbrev pub box_left : ℕ → ℕ → ℕ
box_left width column = 150 + column * (width + 240)

-- the right side
abbrev pub box_right : ℕ → ℕ → ℕ
box_right width column = box_left width column + width

-- the width of so many columns, with 90 free behind the last
abbrev pub columns_width : ℕ → ℕ → ℕ
columns_width width columns = columns * (width + 240)

-- the top of the boxes of a row: boxes are 44 high, and 48 are free between two rows
abbrev pub box_top : ℕ → ℕ
box_top row = 108 + 92 * row

-- a column stands behind those of lower harts
abbrev pub column_of : ℕ → List Column → ℕ
column_of hart columns = length (filter (λ c. nat_lt c.hart hart) columns)

-- an event stands behind those of lower numbers
abbrev pub row_of : ℕ → List Shown → ℕ
row_of seq events = length (filter (λ s. nat_lt s.entry.now.event.id.seq seq) events)

abbrev pub row_in : ℕ → Option Column → ℕ
row_in seq (Some c) = row_of seq c.events.items
row_in seq None = 0

-- where the event with this id stands
abbrev pub spot_of : List Column → Id → Spot
spot_of columns id = record {
  column = column_of id.hart columns;
  row = row_in id.seq (slice_get columns (column_of id.hart columns));
}
