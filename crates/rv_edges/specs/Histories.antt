-- What the links of a history promise.
use Rattle.std.specs.Prelude.{◌≡◌, ◌≢◌, ◌⊎◌, ◌++◌, List, [], ◌∷◌, Option, Some, None}
use Rattle.rv_event.specs.Edges.{IsEdge, IsLowest, IsStale}
use Rattle.rv_event.specs.Faults.{event_fault}
use Rattle.rv_event.specs.declared.event.Id.{Id}
use Rattle.rv_event.specs.declared.event.Event.{Event}
use Rattle.rv_event.specs.declared.event.Entry.{Entry}
use Rattle.rv_event.specs.declared.memory_model.MemoryModel.{MemoryModel}
use Rattle.rv_event.specs.declared.reason.Reason.{Reason}
use Rattle.rv_edges.specs.declared.history.Around.{Around}
use Rattle.rv_cover.specs.Paths.{Covers}
use Rattle.rv_cover.specs.Carries.{Carries}
use Rattle.rv_edges.specs.Kept.{Kept, Past, happened, grown, Joins, IsKept, Ties, IsTied}

-- what the links of an event promise that joins a history
pub record IsLinked (model : MemoryModel) (history : List Kept) (k : Kept) : Type 0 where
  -- each is an edge, a rule under its lowest number, and none leads from the event to itself
  pub listed : (i j : Id) (r : Reason) → Joins k i r j → IsEdge model (grown history k.event) i r j
  pub lowest : (i j : Id) (r : Reason) → Joins k i r j → IsLowest model (grown history k.event) i r j
  pub other : (i j : Id) (r : Reason) → Joins k i r j → i ≢ j
  -- each edge of the event to another is listed, or an older event splits it
  pub carried : Carries model (happened history) k.event (Ties k)
  -- each new edge has the event at an end
  pub ended :
      (i j : Id) (r : Reason) → IsEdge model (grown history k.event) i r j →
      IsEdge model (happened history) i r j ⊎ ((i ≡ k.event.id) ⊎ (j ≡ k.event.id))

-- the event has no fault over those before it, and its links promise this
pub record Joined (model : MemoryModel) (before : List Kept) (k : Kept) : Type 0 where
  pub sound : event_fault (happened before) k.event ≡ None
  pub linked : IsLinked model before k

-- each event joined those before it
abbrev pub IsHistory : MemoryModel → List Kept → Type 0
IsHistory model history = (before after : List Kept) (k : Kept) → history ≡ before ++ k ∷ after → Joined model before k

-- what every history promises of all its edges: kept links are edges, and cover every edge
pub record IsCarried (model : MemoryModel) (history : List Kept) : Type 0 where
  pub true_edges : (i j : Id) (r : Reason) → IsKept history i r j → IsEdge model (happened history) i r j
  pub covered : Covers model (happened history) (IsTied history)

-- the event with the links that were found
abbrev pub kept_of : Event → Around → Kept
kept_of e around = record { event = e; before = around.before; after = around.after }

-- the history with the entry, and the links that were found of its event
abbrev pub with_entry : Past → Entry → Around → Past
with_entry past x around =
    record past { log = past.log ++ x ∷ []; kept = past.kept ++ kept_of x.event around ∷ [] }

-- an edge from the event to itself
abbrev pub HasOwnEdge : MemoryModel → List Kept → Event → Type 0
HasOwnEdge model history e = (r : Reason) × IsEdge model (grown history e) e.id r e.id

-- an own earlier store that the event reads below, exactly where there is one
abbrev pub IsStaleOf : List Kept → Event → Option Id → Type 0
IsStaleOf history e None = (s : Id) → IsStale (grown history e) e.id s → ⊥
IsStaleOf history e (Some s) = IsStale (grown history e) e.id s
