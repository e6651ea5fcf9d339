-- Events that are kept with links to the events before them.
use Rattle.std.specs.Prelude.{◌≡◌, ◌⊎◌, ◌++◌, List, [], ◌∷◌, map, Contains, Any}
use Rattle.std.specs.List.{flat_map}
use Rattle.rv_event.specs.declared.event.Id.{Id}
use Rattle.rv_event.specs.declared.event.Event.{Event}
use Rattle.rv_event.specs.declared.event.Entry.{Entry}
use Rattle.rv_event.specs.declared.memory_model.MemoryModel.{MemoryModel}
use Rattle.rv_event.specs.declared.reason.Link.{Link}
use Rattle.rv_event.specs.declared.reason.Reason.{Reason}
use Rattle.rv_edges.specs.OwnLinks.{OwnLinks}

-- an event with links from events before it, and to events before it
pub record Kept : Type 0 where
  pub event : Event
  pub before : List Link
  pub after : List Link

-- a history: a model, a log, and the log's events with their links
pub record Past : Type 0 where
  pub model : MemoryModel
  pub log : List Entry
  pub kept : List Kept

-- events and links side by side
abbrev pub kept_from : List Event → List OwnLinks → List Kept
kept_from [] links = []
kept_from (e ∷ log) [] = []
kept_from (e ∷ log) (own ∷ links) =
    record { event = e; before = own.before; after = own.after } ∷ kept_from log links

-- the events of a history
abbrev pub happened : List Kept → List Event
happened kept = map (λ k. k.event) kept

-- the events of a history and the new one
abbrev pub grown : List Kept → Event → List Event
grown kept e = happened kept ++ e ∷ []

-- the links of events, one event after the other: of each first those from events before it
abbrev pub links_of : List Kept → List Link
links_of kept = flat_map (λ k. k.before ++ k.after) kept

-- a link of the event leads from the one id to the other, with this reason
abbrev pub Joins : Kept → Id → Reason → Id → Type 0
Joins k i r j =
    ((j ≡ k.event.id) × Contains k.before (record { id = i; reason = r }))
    ⊎ ((i ≡ k.event.id) × Contains k.after (record { id = j; reason = r }))

-- a link that some event keeps
abbrev pub IsKept : List Kept → Id → Reason → Id → Type 0
IsKept kept i r j = Any (λ k. Joins k i r j) kept

-- a link of the event, or a kept one, with any reason
abbrev pub Ties : Kept → Id → Id → Type 0
Ties k i j = (r : Reason) × Joins k i r j

abbrev pub IsTied : List Kept → Id → Id → Type 0
IsTied kept i j = (r : Reason) × IsKept kept i r j
