-- The text of an explanation, byte by byte. The format is this project's own.
use Rattle.std.specs.Prelude.{ℕ, ◌+◌, ◌==◌, List, [], ◌∷◌, Bool, true, false, Option, Some, None, codes, decimal, map}
use Rattle.std.specs.Prelude.{String, slice_get, string_bytes}
use Rattle.std.specs.Global.{Global}
use Rattle.std.specs.Option.{option_copied}
use Rattle.rv_event.specs.Texts.{◌⋯◌, id_text}
use Rattle.rv_event.specs.declared.event.Event.{Event}
use Rattle.rv_event.specs.declared.event.Op.{Op}
use Rattle.rv_event.specs.declared.event.Op.TheVariants.{Load, Store, Lr, Sc, ScFailed, Amo, Branch, Carrier}
use Rattle.rv_event.specs.declared.event.Op.TheVariants.{Fence, FenceTso}
use Rattle.rv_event.specs.declared.memory_model.MemoryModel.{MemoryModel}
use Rattle.rv_event.specs.declared.memory_model.MemoryModel.TheVariants.{Rvwmo, Ztso}
use Rattle.rv_explain.specs.Layout.{padded, placed, widest}
use Rattle.rv_explain.specs.Wording.{deed_text, stale_text, step_text}
use Rattle.rv_explain.specs.declared.explanation.Cause.{Cause}
use Rattle.rv_explain.specs.declared.explanation.Cause.TheVariants.{Cycle, Stale}
use Rattle.rv_explain.specs.declared.explanation.Explanation.{Explanation}
use Rattle.rv_explain.specs.declared.shown.Column.{Column}
use Rattle.rv_explain.specs.declared.shown.Shown.{Shown}
use Rattle.rv_explain.specs.declared.step.Step.{Step}

-- ---- places
abbrev pub row_text : ℕ → List ℕ
row_text row = codes "row " ⋯ decimal row

-- a source by its name, or else by its number
abbrev pub source_text : Option (String Global) → ℕ → List ℕ
source_text (Some name) source = string_bytes name
source_text None source = codes "source " ⋯ decimal source

-- a row, with its source where there are several
abbrev pub place_text : List (String Global) → ℕ → ℕ → List ℕ
place_text [] source row = row_text row
place_text (name ∷ []) source row = row_text row
place_text (name ∷ other ∷ names) source row =
    source_text (slice_get (name ∷ other ∷ names) source) source ⋯ codes " " ⋯ row_text row

-- ---- columns
abbrev pub id_cell : Shown → List ℕ
id_cell s = id_text s.entry.now.event.id

abbrev pub place_cell : List (String Global) → Shown → List ℕ
place_cell names s = place_text names s.entry.now.source s.row

-- what is said of its row, if anything
abbrev pub said_text : Option (List ℕ) → List ℕ
said_text (Some text) = codes " [" ⋯ text ⋯ codes "]"
said_text None = []

-- what an event does, with that
abbrev pub described_text : Shown → List ℕ
described_text s = deed_text s.entry.now.event.op s.entry.now.event ⋯ said_text (option_copied s.text)

abbrev pub mark_text : Bool → List ℕ
mark_text true = codes "   <- refused"
mark_text false = []

-- an event: its id, its place, what it does, and whether it is the refused one
abbrev pub cell_text : List (String Global) → ℕ → ℕ → ℕ → Shown → List ℕ
cell_text names refused id_width place_width s =
    padded id_width (id_cell s) ⋯ codes "  " ⋯ padded place_width (place_cell names s) ⋯ codes "  "
    ⋯ described_text s ⋯ mark_text (s.place == refused)

-- a hart with its events
abbrev pub column_lines : List (String Global) → ℕ → Column → List (List ℕ)
column_lines names refused c =
    (codes "hart " ⋯ decimal c.hart)
    ∷ map (cell_text names refused (widest (map id_cell c.events.items))
    (widest (map (place_cell names) c.events.items))) c.events.items

-- ---- the first line
abbrev pub model_text : MemoryModel → List ℕ
model_text Rvwmo = codes "RVWMO"
model_text Ztso = codes "Ztso"

abbrev pub return_text : Event → List ℕ
return_text e = codes "return version " ⋯ decimal e.read ⋯ codes " of word " ⋯ decimal e.word

-- what the refused event cannot do
abbrev pub cannot_text : Op → Event → List ℕ
cannot_text Load e = return_text e
cannot_text Lr e = return_text e
cannot_text Store e = codes "write version " ⋯ decimal e.wrote ⋯ codes " of word " ⋯ decimal e.word
cannot_text Sc e = codes "write version " ⋯ decimal e.wrote ⋯ codes " of word " ⋯ decimal e.word
cannot_text Amo e = return_text e ⋯ codes " and write version " ⋯ decimal e.wrote
cannot_text ScFailed e = codes "come next"
cannot_text (Fence pred succ) e = codes "come next"
cannot_text FenceTso e = codes "come next"
cannot_text Branch e = codes "come next"
cannot_text Carrier e = codes "come next"

abbrev pub headline_text : MemoryModel → List (String Global) → Shown → List ℕ
headline_text model names s =
    id_cell s ⋯ codes " (" ⋯ place_cell names s ⋯ codes ") cannot "
    ⋯ cannot_text s.entry.now.event.op s.entry.now.event ⋯ codes " under " ⋯ model_text model ⋯ codes ".\n"

-- ---- the cause
abbrev pub numbered_line : ℕ → Step → List ℕ
numbered_line n s = codes "  " ⋯ decimal n ⋯ codes ". " ⋯ step_text s ⋯ codes "\n"

-- the steps, numbered from a number on
unfoldable pub numbered : ℕ → List Step → List ℕ
numbered n [] = []
numbered n (s ∷ steps) = numbered_line n s ⋯ numbered (n + 1) steps

-- what a cycle comes to
abbrev pub so_text : List Step → List ℕ
so_text [] = []
so_text (s ∷ steps) = codes "  So " ⋯ id_text s.from.now.id ⋯ codes " would come before itself.\n"

abbrev pub cause_text : Cause → List ℕ
cause_text (Cycle steps) = numbered 1 steps.items ⋯ so_text steps.items
cause_text (Stale a b) = codes "  1. " ⋯ stale_text a.now b.now ⋯ codes "\n"

-- the whole
abbrev pub explanation_text : MemoryModel → List (String Global) → Explanation → List ℕ
explanation_text model names e =
    headline_text model names e.refused ⋯ codes "\n"
    ⋯ placed (map (column_lines names e.refused.place) e.columns.items) ⋯ cause_text e.cause
