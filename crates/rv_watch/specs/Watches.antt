-- Watches, the logs for which they stand, and why they stop. These are this project's own.
use Rattle.std.specs.Prelude.{ℕ, ◌≡◌, ◌+◌, ◌-◌, ◌<◌, ◌&&◌, Bool, List, Some, count_by, length, min, nat_eq, not}
use Rattle.std.specs.HashMap.{get}
use Rattle.std.specs.HashSet.{contains}
use Rattle.rv_book.specs.Booked.{IsForbiddenOn}
use Rattle.rv_book.specs.Counts.{is_waiting, operations_of}
use Rattle.rv_event.specs.Faults.{fault_within}
use Rattle.rv_event.specs.Log.{events}
use Rattle.rv_event.specs.declared.event.Entry.{Entry}
use Rattle.rv_event.specs.declared.event.Event.{Event}
use Rattle.rv_past.specs.Facts.{is_written}
use Rattle.rv_past.specs.Gone.{same_version}
use Rattle.rv_endless.specs.Runs.{IsBeyond, IsEdgeIntoPast, IsForbidden, IsTakenBefore, StandsFor, in_window, limit}
use Rattle.rv_endless.specs.declared.run.Endless.{Endless}
use Rattle.rv_watch.specs.declared.stop.Stop.{Stop}
use Rattle.rv_watch.specs.declared.stop.Stop.TheVariants as stop
use Rattle.rv_watch.specs.declared.watch.Watch.{Watch}

-- the greatest number of 64 bits
abbrev pub most : ℕ
most = 18446744073709551615

-- a load of the window waits: no store of the window wrote the version that it returned, and none that was
-- forgotten
abbrev pub waits_in : Endless → Event → Bool
waits_in run e =
    is_waiting (events run.book.log) e
    && not (is_written (get nat_eq run.facts.through) (contains same_version run.facts.above) e.word e.read)

-- how many of them wait
abbrev pub waiting_in : Endless → ℕ
waiting_in run = count_by (λ x. waits_in run x.event) run.book.log

-- the run stands for the log, and the counts are of it
pub record IsWatchOf (w : Watch) (log : List Entry) : Type 0 where
  pub stands : StandsFor w.run log
  pub events : w.events ≡ min (length log) most
  pub operations : w.operations ≡ min (operations_of log) most

-- the entry has no fault, and no order is lawful for the log with it; a refusal by the window has it and the
-- entry, counted from the first number of each hart in the window, as its evidence, and one by the past an
-- edge that leads there
abbrev pub IsStop : Watch → List Entry → Entry → Stop → Type 0
IsStop w log x (stop.Malformed f) = fault_within limit log x ≡ Some f
IsStop w log x stop.Taken = IsTakenBefore w.run log x
IsStop w log x (stop.Forbidden r) =
    IsForbidden w.run log x × IsForbiddenOn w.run.book.model w.run.book.log (in_window w.run x) r
IsStop w log x (stop.BeforePast edge) = IsForbidden w.run log x × IsEdgeIntoPast w.run log x edge
IsStop w log x (stop.Beyond b) = (x.event.id.hart < 16) × IsBeyond w.run x b × IsWatchOf w log
IsStop w log x stop.Stopped = ⊥
IsStop w log x stop.NoMemory = IsWatchOf w log

-- a cut counts the loads that waited in the window, and wait there no more
abbrev pub IsCounted : Watch → Watch → Type 0
IsCounted old new = new.waiting_gone ≡ min (old.waiting_gone + (waiting_in old.run - waiting_in new.run)) most
