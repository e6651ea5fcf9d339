-- The boxes of a picture, byte by byte. The format is this project's own, within SVG.
use Rattle.std.specs.Prelude.{ℕ, ◌+◌, ◌*◌, ◌==◌, List, [], ◌∷◌, Bool, true, false, String, codes, decimal, flat_map}
use Rattle.std.specs.Prelude.{if◌then◌else◌, nat_lt, option_map}
use Rattle.std.specs.Global.{Global}
use Rattle.std.specs.Option.{option_copied}
use Rattle.rv_event.specs.Texts.{◌⋯◌}
use Rattle.rv_event.specs.declared.event.Op.{Op}
use Rattle.rv_event.specs.declared.event.Op.TheVariants.{Load, Store, Lr, Sc, ScFailed, Amo, Branch, Carrier}
use Rattle.rv_event.specs.declared.event.Op.TheVariants.{Fence, FenceTso}
use Rattle.rv_explain.specs.Layout.{widest}
use Rattle.rv_explain.specs.Telling.{id_cell, place_cell, said_text}
use Rattle.rv_explain.specs.Wording.{deed_text}
use Rattle.rv_explain.specs.declared.shown.Column.{Column}
use Rattle.rv_explain.specs.declared.shown.Shown.{Shown}
use Rattle.rv_picture.specs.Measures.{box_left, box_top}
use Rattle.rv_picture.specs.Escaping.{xml_text}
use Rattle.rv_picture.specs.Numbering.{numbered}
use Rattle.rv_picture.specs.declared.grid.Spot.{Spot}

-- ---- what stands in a box
-- its first line: the event's id and place, and whether it is the refused one
unfoldable pub heading_text : List (String Global) → ℕ → Shown → List ℕ
heading_text names refused s =
    id_cell s ⋯ codes ", " ⋯ place_cell names s ⋯ (if s.place == refused then codes ", refused" else [])

-- its second line: what the event does, and what is said of its row, as XML has that
abbrev pub deed_of : Shown → List ℕ
deed_of s =
    deed_text s.entry.now.event.op s.entry.now.event ⋯ said_text (option_map xml_text (option_copied s.text))

abbrev pub event_texts : List (String Global) → ℕ → Shown → List (List ℕ)
event_texts names refused s = heading_text names refused s ∷ deed_of s ∷ []

abbrev pub column_texts : List (String Global) → ℕ → Column → List (List ℕ)
column_texts names refused c = flat_map (event_texts names refused) c.events.items

-- boxes have room for the longest text, of which they show 1000 characters at most
abbrev pub box_width : List (String Global) → ℕ → List Column → ℕ
box_width names refused columns =
    let longest = widest (flat_map (column_texts names refused) columns) in
    24 + 9 * (if nat_lt longest 1000 then longest else 1000)

-- ---- boxes
-- fences have dashes
abbrev pub dash_text : Op → List ℕ
dash_text Load = []
dash_text Store = []
dash_text Lr = []
dash_text Sc = []
dash_text ScFailed = []
dash_text Amo = []
dash_text (Fence pred succ) = codes " stroke-dasharray=\"6 4\""
dash_text FenceTso = codes " stroke-dasharray=\"6 4\""
dash_text Branch = []
dash_text Carrier = []

-- and the refused event has a thick line
abbrev pub stroke_text : Bool → Op → List ℕ
stroke_text true op = codes " stroke-width=\"3\""
stroke_text false op = dash_text op

abbrev pub font_text : Bool → List ℕ
font_text true = codes " font-weight=\"bold\""
font_text false = []

-- the outline of a box at its place
abbrev pub outline_text : ℕ → Spot → Bool → Op → List ℕ
outline_text width at refused op =
    codes "<g transform=\"translate(" ⋯ decimal (box_left width at.column) ⋯ codes " " ⋯ decimal (box_top at.row)
    ⋯ codes ")\"" ⋯ font_text refused
    ⋯ codes ">\n<rect width=\"" ⋯ decimal width ⋯ codes "\" height=\"44\" fill=\"white\" stroke=\"black\""
    ⋯ stroke_text refused op ⋯ codes "/>\n"

-- its two lines
abbrev pub first_line : List (String Global) → ℕ → Shown → List ℕ
first_line names refused s =
    codes "<text x=\"12\" y=\"18\">" ⋯ heading_text names refused s ⋯ codes "</text>\n"

abbrev pub second_line : Shown → List ℕ
second_line s = codes "<text x=\"12\" y=\"36\">" ⋯ deed_of s ⋯ codes "</text>\n</g>\n"

-- a box
abbrev pub tile_text : List (String Global) → ℕ → ℕ → Spot → Shown → List ℕ
tile_text names refused width at s =
    outline_text width at (s.place == refused) s.entry.now.event.op ⋯ first_line names refused s ⋯ second_line s

-- that of a column's event, by its row
abbrev pub tile_in : List (String Global) → ℕ → ℕ → ℕ → ℕ → Shown → List ℕ
tile_in names refused width column row s = tile_text names refused width (record { column = column; row = row }) s

-- ---- columns
-- the hart of a column, above its boxes
abbrev pub hart_text : ℕ → ℕ → ℕ → List ℕ
hart_text width number hart =
    codes "<text x=\"" ⋯ decimal (box_left width number) ⋯ codes "\" y=\"56\" font-weight=\"bold\">hart "
    ⋯ decimal hart ⋯ codes "</text>\n"

-- a hart, and the boxes of its events, by the column's number
abbrev pub column_text : List (String Global) → ℕ → ℕ → ℕ → Column → List ℕ
column_text names refused width number c =
    hart_text width number c.hart ⋯ numbered (tile_in names refused width number) 0 c.events.items
