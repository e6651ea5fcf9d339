-- What a history keeps of its events to find the edges of the next one: of each hart, by its events.
use Rattle.std.specs.Prelude.{ℕ, ◌≡◌, ◌<◌, ◌≤◌, List, [], length, slice_index_or, Option, Some, None}
use Rattle.rv_event.specs.Log.{of_hart}
use Rattle.rv_event.specs.declared.event.Event.{Event}
use Rattle.rv_event.specs.declared.memory_model.MemoryModel.{MemoryModel}
use Rattle.rv_hart.specs.Harts.{Hart}
use Rattle.rv_hart.specs.Kept.{IsHartOf, hart_of_log}
use Rattle.rv_hart.specs.declared.hart.HartOrder.{HartOrder}
use Rattle.rv_edges.specs.OwnLinks.{OwnLinks}
use Rattle.rv_edges.specs.Kept.{Past, kept_from, happened}
use Rattle.rv_edges.specs.Histories.{IsHistory}

-- a hart as a log has it
abbrev pub hart_from : MemoryModel → List Event → ℕ → Hart
hart_from model log h = record { model = model; number = h; events = of_hart h log }

-- a hart as a history has it
abbrev pub hart_in : Past → ℕ → Hart
hart_in past h = hart_from past.model (happened past.kept) h

-- what is kept of a hart is of the log's events with this number
pub record IsHartAt (model : MemoryModel) (log : List Event) (h : ℕ) (x : HartOrder) : Type 0 where
  pub of_log : IsHartOf log x
  pub hart : hart_of_log log x ≡ hart_from model log h

-- the hart of this number as a history has it: None only where it has no events
abbrev pub IsHartIn : Past → ℕ → Option HartOrder → Type 0
IsHartIn past h (Some x) = IsHartAt past.model (happened past.kept) h x
IsHartIn past h None = of_hart h (happened past.kept) ≡ []

-- each hart of the list is the log's of its place, and no other has events
pub record AreHarts (model : MemoryModel) (log : List Event) (harts : List HartOrder) : Type 0 where
  pub each :
      (h : ℕ) (x : HartOrder) → h < length harts → x ≡ slice_index_or harts h x → IsHartAt model log h x
  pub none : (h : ℕ) → length harts ≤ h → of_hart h log ≡ []

-- events and links make a history, whose harts these are
pub record AreIndexes (model : MemoryModel) (log : List Event) (harts : List HartOrder)
    (links : List OwnLinks) : Type 0 where
  pub lengths : length log ≡ length links
  pub history : IsHistory model (kept_from log links)
  pub own : AreHarts model log harts
