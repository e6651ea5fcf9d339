-- What the bytes of a source say that may have any number of rows: its events and the ends of its harts, in
-- order, and how it ends. These are this project's own.
use Rattle.std.specs.Prelude.{ℕ, ◌≡◌, ◌⊎◌, ◌+◌, ◌≤◌, ◌≢◌, ◌&&◌, ◌==◌, List, [], ◌∷◌, length, Bool, true, false, Option}
use Rattle.std.specs.Prelude.{Some, None, Result, Ok, Err, bytes_eq, codes, if◌then◌else◌, nat_lt, option_map, ⊤}
use Rattle.rv_event.specs.declared.event.Event.{Event}
use Rattle.rv_trace.specs.Dialects.{plain}
use Rattle.rv_trace.specs.Faults.{IsOutside, is_of_text}
use Rattle.rv_trace.specs.Numbers.{blank, number}
use Rattle.rv_trace.specs.Row.{Fields, event_of, field}
use Rattle.rv_trace.specs.Rows.{RowsLeft}
use Rattle.rv_trace.specs.Source.{is_header, text_records}
use Rattle.rv_trace.specs.Steps.{◌>>=◌}
use Rattle.rv_trace.specs.Trace.{refused_in}
use Rattle.rv_trace.specs.declared.fault.FaultKind.{FaultKind}
use Rattle.rv_trace.specs.declared.fault.FaultKind.TheVariants as fault
use Rattle.rv_trace.specs.declared.feed.FeedFault.{FeedFault}
use Rattle.rv_trace.specs.declared.feed.FeedRow.{FeedRow}
use Rattle.rv_trace.specs.declared.feed.FeedRow.TheVariants as row
use Rattle.rv_trace.specs.declared.feed.Stage.{Stage}
use Rattle.rv_trace.specs.declared.feed.Stage.TheVariants as stage

-- ---- rows
-- a row that has END in the place of the operation
abbrev pub ends_hart : Fields → Bool
ends_hart fields = (length fields == 8) && bytes_eq (field fields 2) (codes "END")

-- it names the hart that has ended, and its other fields are blank
unfoldable pub hart_end : Fields → Result ℕ FaultKind
hart_end fields = do
  hart ← number 255 (field fields 0)
  seq ← blank (field fields 1)
  word ← blank (field fields 3)
  read ← blank (field fields 4)
  wrote ← blank (field fields 5)
  ann ← blank (field fields 6)
  deps ← blank (field fields 7)
  Ok hart

abbrev pub as_end : Result ℕ FaultKind → Result FeedRow FaultKind
as_end (Ok hart) = Ok (row.HartEnd hart)
as_end (Err k) = Err k

abbrev pub as_event : Result Event FaultKind → Result FeedRow FaultKind
as_event (Ok e) = Ok (row.Event e)
as_event (Err k) = Err k

-- what a row gives: each other one is an event of the nine operations
unfoldable pub row_gives : Fields → Result FeedRow FaultKind
row_gives fields = if ends_hart fields then as_end (hart_end fields) else as_event (event_of plain fields)

-- ---- sources
-- what rows give, and then the end: None where it is whole
pub record FeedStream : Type 0 where
  pub rows : List FeedRow
  pub end : Option FeedFault

abbrev pub nothing : FeedStream
nothing = record { rows = []; end = None }

abbrev pub feed_fault : FaultKind → ℕ → FeedFault
feed_fault k n = record { kind = k; row = n }

abbrev pub stops_at : FaultKind → ℕ → FeedStream
stops_at k n = record { rows = []; end = Some (feed_fault k n) }

-- what data row n gives: rows have the numbers that 64 bits hold, but for the last
abbrev pub row_gives_at : ℕ → Fields → Result FeedRow FaultKind
row_gives_at n fields = if nat_lt 18446744073709551614 n then Err fault.TooLong else row_gives fields

abbrev pub and_then : ℕ → Result FeedRow FaultKind → FeedStream → FeedStream
and_then n (Ok x) s = record { rows = x ∷ s.rows; end = s.end }
and_then n (Err k) s = stops_at k n

-- the rows from data row n on
unfoldable pub rows_give : ℕ → List Fields → FeedStream
rows_give n [] = nothing
rows_give n (r ∷ rs) = and_then n (row_gives_at n r) (rows_give (n + 1) rs)

-- a header and rows
unfoldable pub records_give : List Fields → FeedStream
records_give [] = stops_at fault.Header 0
records_give (h ∷ rs) = if is_header h then rows_give 1 rs else stops_at fault.Header 0

-- what a text gives
abbrev pub bytes_give : List ℕ → FeedStream
bytes_give bytes = records_give (text_records bytes)

-- ---- what is left of a source
-- Whether its header is still to be read; how many rows were given; what is still given, where the reader
-- tells its bytes; whether the end has come; the fault that is repeated; and whether the last read failed
-- since the reader underneath refused.
pub record FeedLeft : Type 0 where
  pub unread : Bool
  pub given : ℕ
  pub stream : Option FeedStream
  pub ended : Bool
  pub fault : Option FeedFault
  pub refused : Bool

-- of which nothing was read yet, by the bytes of its reader where they are known
abbrev pub fresh_feed : Option (List ℕ) → FeedLeft
fresh_feed known = record {
  unread = true;
  given = 0;
  stream = option_map bytes_give known;
  ended = false;
  fault = None;
  refused = false;
}

-- what the records left give at a stage
abbrev pub stream_at : Stage → ℕ → Option (List Fields) → Option FeedStream
stream_at stage.Start given left = option_map records_give left
stream_at stage.Rows given left = option_map (rows_give (given + 1)) left
stream_at stage.Ended given left = Some nothing
stream_at (stage.Failed f) given left = None

abbrev pub is_unread : Stage → Bool
is_unread stage.Start = true
is_unread stage.Rows = false
is_unread stage.Ended = false
is_unread (stage.Failed f) = false

abbrev pub has_ended : Stage → Bool
has_ended stage.Start = false
has_ended stage.Rows = false
has_ended stage.Ended = true
has_ended (stage.Failed f) = false

abbrev pub fault_kept : Stage → Option FeedFault
fault_kept stage.Start = None
fault_kept stage.Rows = None
fault_kept stage.Ended = None
fault_kept (stage.Failed f) = Some f

abbrev pub feed_left : ℕ → Stage → RowsLeft → FeedLeft
feed_left given s rows = record {
  unread = is_unread s;
  given = given;
  stream = stream_at s given rows.left;
  ended = has_ended s;
  fault = fault_kept s;
  refused = refused_in rows;
}

-- while records are read, the reader has not stopped; nothing was given before the header
abbrev pub InStage : Stage → ℕ → RowsLeft → Type 0
InStage stage.Start given rows = (rows.stopped ≡ false) × (given ≡ 0) × (rows.failed ≡ false)
InStage stage.Rows given rows = (rows.stopped ≡ false) × (given ≤ 18446744073709551614) × (rows.failed ≡ false)
InStage stage.Ended given rows = rows.failed ≡ false
InStage (stage.Failed f) given rows = f.kind ≢ fault.Csv

-- ---- what a call answered
-- a known stream goes on as another
abbrev pub Passes : Option FeedStream → Option FeedStream → Type 0
Passes None new = ⊤
Passes (Some s) None = ⊥
Passes (Some s) (Some t) = s ≡ t

-- the next row of a known stream was taken
abbrev pub TakesNext : Option FeedStream → Option FeedStream → FeedRow → Type 0
TakesNext None new x = ⊤
TakesNext (Some s) None x = ⊥
TakesNext (Some s) (Some t) x = s ≡ record { rows = x ∷ t.rows; end = t.end }

-- a known stream is at its whole end
abbrev pub IsOver : Option FeedStream → Type 0
IsOver None = ⊤
IsOver (Some s) = s ≡ nothing

-- a fault is the one that a known stream ends in at once, or one of reading or memory
abbrev pub IsFeedFault : Option FeedStream → FeedFault → Type 0
IsFeedFault None f = (is_of_text f.kind ≡ true) ⊎ IsOutside f.kind
IsFeedFault (Some s) f = ((is_of_text f.kind ≡ true) × (s ≡ stops_at f.kind f.row)) ⊎ IsOutside f.kind

-- the row that was being read: the one after those given; or the header, where that was still to be read
abbrev pub IsAtFeedRow : Bool → ℕ → FeedFault → Type 0
IsAtFeedRow false given f = f.row ≡ given + 1
IsAtFeedRow true given f = (given ≡ 0) × ((f.row ≡ 0) ⊎ (f.row ≡ 1))
