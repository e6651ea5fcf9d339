-- What a book counts in its log.
use Rattle.std.specs.Prelude.{ℕ, ◌≡◌, ◌<◌, ◌≤◌, Bool, true, false, not, ◌&&◌, ◌==◌, List, length, take, count_by}
use Rattle.std.specs.Prelude.{is_none, slice_index_or}
use Rattle.std.specs.List.{All}
use Rattle.rv_event.specs.Operations.{is_load, is_memory}
use Rattle.rv_event.specs.Log.{events, writer}
use Rattle.rv_event.specs.declared.event.Event.{Event}
use Rattle.rv_event.specs.declared.event.Entry.{Entry}

-- a load waits where it returned a version above 0 that no store of the log has written yet
abbrev pub is_waiting : List Event → Event → Bool
is_waiting log e = is_load e.op && (not (e.read == 0) && is_none (writer log e.word e.read))

abbrev pub operations_of : List Entry → ℕ
operations_of log = count_by (λ x. is_memory x.event.op) log

abbrev pub waiting_of : List Entry → ℕ
waiting_of log = count_by (λ x. is_waiting (events log) x.event) log

-- the entries before this place wait for no store
pub record AreSettled (log : List Entry) (place : ℕ) : Type 0 where
  pub within : place ≤ length log
  pub none : All (λ x. is_waiting (events log) x.event ≡ false) (take place log)

-- the entry of this place, where there is one, waits for a store
abbrev pub WaitsAt : List Entry → ℕ → Type 0
WaitsAt log place = (x : Entry) → place < length log → is_waiting (events log) (slice_index_or log place x).event ≡ true
