-- When a run is complete, and what it lacks else. That loads wait is a matter of the manual's load
-- value axiom, section 14.1; the rest is this project's own.
use Rattle.std.specs.Prelude.{◌≡◌, ◌≢◌, ◌<◌, ℕ, List, [], ◌∷◌, Option, Some, None, IfSome, codes, decimal}
use Rattle.std.specs.Prelude.{length, slice_index_or, ⊤}
use Rattle.rv_event.specs.Merges.{SameSources}
use Rattle.rv_event.specs.Texts.{◌⋯◌}
use Rattle.rv_event.specs.declared.event.Entry.{Entry}
use Rattle.rv_book.specs.Counts.{waiting_of}
use Rattle.rv_coverage.specs.Waits.{wait_text, waits}
use Rattle.rv_coverage.specs.declared.waiting.Wait.{Wait}
use Rattle.rv_trace.specs.Source.{Stream}
use Rattle.rv_run.specs.Sources.{HasRead}
use Rattle.rv_run.specs.declared.missing.Missing.{Missing}
use Rattle.rv_run.specs.declared.missing.Missing.TheVariants.{EndRecord, Rows, Events, Store}

abbrev pub missing_text : Missing → List ℕ
missing_text (EndRecord source) = codes "source " ⋯ decimal source ⋯ codes " has no end record"
missing_text (Rows source rows said) =
    codes "source " ⋯ decimal source ⋯ codes " ends after " ⋯ decimal rows ⋯ codes " rows, and says " ⋯ decimal said
missing_text Events = codes "no events"
missing_text (Store w) = wait_text w

-- this load is the first that waits, by their names
abbrev pub IsFirstWait : List Entry → Wait → Type 0
IsFirstWait log w = (rest : List Wait) × (waits log ≡ w ∷ rest)

-- ---- sources whose readers tell their bytes
-- the end record counts the rows
abbrev pub IsCounted : Option Stream → Type 0
IsCounted None = ⊤
IsCounted (Some s) = s.said ≡ Some (length s.events)

-- those of the first so many sources do
abbrev pub AreCounted : List (Option Stream) → ℕ → Type 0
AreCounted streams n = (i : ℕ) → i < n → IsCounted (slice_index_or streams i None)

-- the end record of a source is not there, or says another number of rows
abbrev pub HasNoEnd : Option Stream → Type 0
HasNoEnd s = IfSome s (λ t. t.said ≡ None)

abbrev pub IsMiscounted : ℕ → ℕ → Option Stream → Type 0
IsMiscounted rows said s =
    (rows ≢ said) × IfSome s (λ t. (length t.events ≡ rows) × (t.said ≡ Some said))

-- of all of their events
abbrev pub AllRead : List (Option Stream) → (List Entry → Type 0) → Type 0
AllRead streams P = (entries : List Entry) × HasRead 0 streams entries × P entries

-- in some merge of them
abbrev pub InMerge : (List Entry → Type 0) → List Entry → Type 0
InMerge P entries = (log : List Entry) × SameSources entries log × P log

-- Nothing is lacking: each end record counts the rows of its source, there are events, and none of
-- the loads waits. Or this is the first that is: the end record of a source, an event, a store.
abbrev pub Lacks : List (Option Stream) → Option Missing → Type 0
Lacks streams None =
    AreCounted streams (length streams)
    × AllRead streams (λ entries. (0 < length entries) × (waiting_of entries ≡ 0))
Lacks streams (Some (EndRecord source)) =
    AreCounted streams source × (source < length streams) × HasNoEnd (slice_index_or streams source None)
Lacks streams (Some (Rows source rows said)) =
    AreCounted streams source × (source < length streams)
    × IsMiscounted rows said (slice_index_or streams source None)
Lacks streams (Some Events) =
    AreCounted streams (length streams) × AllRead streams (λ entries. entries ≡ [])
Lacks streams (Some (Store w)) =
    AreCounted streams (length streams) × AllRead streams (InMerge (λ log. IsFirstWait log w))
