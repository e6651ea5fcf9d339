-- The events that an explanation shows.
use Rattle.std.specs.Prelude.{ℕ, ◌≡◌, ◌<◌, ◌+◌, ◌==◌, List, Contains, All, Any, AllPairs, count_by, filter, get_or}
use Rattle.std.specs.Prelude.{length, take}
use Rattle.std.specs.Option.{option_copied}
use Rattle.rv_event.specs.declared.event.Entry.{Entry}
use Rattle.rv_event.specs.declared.event.Id.{Id}
use Rattle.rv_explain.specs.RowTexts.{Said}
use Rattle.rv_explain.specs.declared.shown.Shown.{Shown}
use Rattle.rv_explain.specs.declared.shown.Column.{Column}

-- the row of the entry at a place of the log: how many entries its source gave up to it
abbrev pub row_at : List Entry → ℕ → ℕ → ℕ
row_at log place source = count_by (λ x. source == x.source) (take (place + 1) log)

-- an entry of the log, under its row, with what is said of that
pub record IsShown (log : List Entry) (texts : Said) (s : Shown) : Type 0 where
  pub inside : s.place < length log
  pub entry : get_or log s.place s.entry.now ≡ s.entry.now
  pub row : s.row ≡ row_at log s.place s.entry.now.source
  pub text : option_copied s.text ≡ texts s.entry.now.source s.row

-- just the entries of the log with these ids, in the log's order
pub record AreShown (log : List Entry) (texts : Said) (ids : List Id) (shown : List Shown) : Type 0 where
  pub each : All (λ s. IsShown log texts s × Contains ids s.entry.now.event.id) shown
  pub all :
      (place : ℕ) (x : Entry) → place < length log → get_or log place x ≡ x → Contains ids x.event.id →
      Any (λ s. s.place ≡ place) shown
  pub ordered : AllPairs (λ s t. s.place < t.place) shown

-- those of a hart
abbrev pub of_hart : ℕ → List Shown → List Shown
of_hart hart shown = filter (λ s. hart == s.entry.now.event.id.hart) shown

-- a column has all that is shown of its hart, and not nothing
pub record IsColumn (shown : List Shown) (c : Column) : Type 0 where
  pub events : c.events.items ≡ of_hart c.hart shown
  pub some : 0 < length c.events.items

-- a column for each hart of which something is shown, by ascending numbers
pub record AreColumns (shown : List Shown) (columns : List Column) : Type 0 where
  pub each : All (IsColumn shown) columns
  pub all : (s : Shown) → Contains shown s → Any (λ c. c.hart ≡ s.entry.now.event.id.hart) columns
  pub ordered : AllPairs (λ c d. c.hart < d.hart) columns
