-- The picture of an outcome, byte by byte. The format is this project's own, within SVG.
use Rattle.std.specs.Prelude.{ℕ, ◌≡◌, ◌+◌, ◌*◌, List, [], ◌∷◌, String, codes, decimal, flat_map, length, map}
use Rattle.std.specs.Prelude.{option_map}
use Rattle.std.specs.Prelude.{string_bytes}
use Rattle.std.specs.Global.{Global}
use Rattle.std.specs.Str.Lines.{lines}
use Rattle.rv_event.specs.Texts.{◌⋯◌}
use Rattle.rv_cert.specs.Refusals.{FaultyLog, Refusal}
use Rattle.rv_report.specs.Texts.{report_text}
use Rattle.rv_report.specs.declared.outcome.Outcome.{Outcome}
use Rattle.rv_report.specs.declared.outcome.Outcome.TheVariants as outcome
use Rattle.rv_event.specs.declared.memory_model.MemoryModel.{MemoryModel}
use Rattle.rv_explain.specs.Explaining.{IsExplanation}
use Rattle.rv_explain.specs.Faults.{malformed_text}
use Rattle.rv_explain.specs.Layout.{greater, widest}
use Rattle.rv_explain.specs.RowTexts.{Said}
use Rattle.rv_explain.specs.Showing.{IsShown}
use Rattle.rv_explain.specs.Telling.{cause_text, headline_text}
use Rattle.rv_explain.specs.declared.explanation.Explanation.{Explanation}
use Rattle.rv_explain.specs.declared.shown.Column.{Column}
use Rattle.rv_explain.specs.declared.shown.Shown.{Shown}
use Rattle.rv_picture.specs.Arrows.{arrows_of, label_text, path_text}
use Rattle.rv_picture.specs.Escaping.{xml_text}
use Rattle.rv_picture.specs.Measures.{box_top, columns_width}
use Rattle.rv_picture.specs.Numbering.{numbered}
use Rattle.rv_picture.specs.Pages.{head_text, line_text}
use Rattle.rv_picture.specs.Tiles.{box_width, column_text}
use Rattle.rv_picture.specs.declared.arrow.Arrow.{Arrow}

-- ---- drawings
-- the number of events in the longest of these columns
unfoldable pub most_rows : List Column → ℕ
most_rows [] = 0
most_rows (c ∷ columns) = greater (length c.events.items) (most_rows columns)

-- what is drawn: boxes of a width, the columns of an explanation, arrows, and lines above and below
pub record Plan : Type 0 where
  pub names : List (String Global)
  pub refused : ℕ
  pub width : ℕ
  pub columns : List Column
  pub arrows : List Arrow
  pub title : List (List ℕ)
  pub notes : List (List ℕ)

-- its width and its height
abbrev pub plan_width : Plan → ℕ
plan_width p =
    greater (columns_width p.width (length p.columns)) (greater (48 + 10 * widest p.title) (48 + 8 * widest p.notes))

abbrev pub plan_height : Plan → ℕ
plan_height p = box_top (most_rows p.columns) + 44 + 18 * length p.notes

-- its lines above, its ways, its labels, and its lines below
abbrev pub title_text : List (List ℕ) → List ℕ
title_text lines =
    codes "<g font-size=\"14\" font-weight=\"bold\">\n" ⋯ numbered line_text 0 lines ⋯ codes "</g>\n"

abbrev pub paths_text : ℕ → List Arrow → List ℕ
paths_text width arrows =
    codes "<g fill=\"none\" stroke=\"black\" marker-end=\"url(#head)\">\n" ⋯ flat_map (path_text width) arrows
    ⋯ codes "</g>\n"

abbrev pub labels_text : ℕ → List Arrow → List ℕ
labels_text width arrows =
    codes "<g font-size=\"11\" stroke=\"white\" stroke-width=\"4\" paint-order=\"stroke\">\n"
    ⋯ numbered (label_text width) 1 arrows ⋯ codes "</g>\n"

abbrev pub below_text : ℕ → List ℕ
below_text rows = codes "<g transform=\"translate(0 " ⋯ decimal (box_top rows) ⋯ codes ")\">\n"

abbrev pub notes_text : ℕ → List (List ℕ) → List ℕ
notes_text rows lines = below_text rows ⋯ numbered line_text 0 lines ⋯ codes "</g>\n"

-- a picture of it: arrows below boxes, and labels above both
abbrev pub plan_text : Plan → List ℕ
plan_text p =
    head_text (plan_width p) (plan_height p) ⋯ title_text p.title ⋯ paths_text p.width p.arrows
    ⋯ numbered (column_text p.names p.refused p.width) 0 p.columns ⋯ labels_text p.width p.arrows
    ⋯ notes_text (most_rows p.columns) p.notes ⋯ codes "</svg>\n"

-- ---- outcomes
-- what is drawn of an explanation: its columns, and an arrow for each step
abbrev pub plan_of : MemoryModel → List (String Global) → Explanation → Plan
plan_of model names e = record {
  names = names;
  refused = e.refused.place;
  width = box_width names e.refused.place e.columns.items;
  columns = e.columns.items;
  arrows = arrows_of e.columns.items e.cause;
  title = lines (headline_text model names e.refused);
  notes = lines (cause_text e.cause);
}

-- lines alone
abbrev pub page_text : List (List ℕ) → List ℕ
page_text lines =
    head_text (48 + 8 * widest lines) (44 + 18 * length lines) ⋯ numbered line_text 0 lines ⋯ codes "</svg>\n"

-- of a forbidden log its explanation
pub record IsForbiddenPicture (names : List (String Global)) (texts : Said) (f : Refusal) (text : List ℕ) : Type 0 where
  pub explanation : Explanation
  pub is_one : IsExplanation f texts explanation
  pub bytes : text ≡ plan_text (plan_of f.model names explanation)

-- of a malformed one what is wrong with its last event, with what is said of its row as XML has that
pub record IsMalformedPicture (names : List (String Global)) (texts : Said) (m : FaultyLog)
    (text : List ℕ) : Type 0 where
  pub refused : Shown
  pub is_shown : IsShown m.evidence (λ source row. option_map xml_text (texts source row)) refused
  pub is_last : refused.place + 1 ≡ length m.evidence
  pub bytes : text ≡ page_text (lines (malformed_text names refused m.fault))

-- and of an allowed one its report
abbrev pub IsPictureOf : List (String Global) → Said → Outcome → List ℕ → Type 0
IsPictureOf names texts (outcome.Allowed events operations waiting) text =
    text ≡ page_text (lines (report_text (outcome.Allowed events operations waiting)))
IsPictureOf names texts (outcome.Forbidden f) text = IsForbiddenPicture names texts f text
IsPictureOf names texts (outcome.Malformed m) text = IsMalformedPicture names texts m text

-- the picture of an outcome, with the sources' names as XML has them
pub record IsPicture (names : List (String Global)) (texts : Said) (o : Outcome) (text : List ℕ) : Type 0 where
  pub shown : List (String Global)
  pub spelled : map string_bytes shown ≡ map xml_text (map string_bytes names)
  pub picture : IsPictureOf shown texts o text
