-- Paths of steps, and links that cover every edge.
use Rattle.std.specs.Prelude.{ℕ, ◌≢◌, List}
use Rattle.rv_event.specs.Preserved.{Rule}
use Rattle.rv_event.specs.Edges.{IsEdge}
use Rattle.rv_event.specs.declared.event.Id.{Id}
use Rattle.rv_event.specs.declared.event.Event.{Event}
use Rattle.rv_event.specs.declared.memory_model.MemoryModel.{MemoryModel}
use Rattle.rv_event.specs.declared.reason.Reason.{Reason}

-- a path of at least one step
pub data Path (X : Type 0) (Step : X → X → Type 0) : X → X → Type 0 where
  one : {i j : X} → Step i j → Path X Step i j
  more : {i j k : X} → Step i j → Path X Step j k → Path X Step i k

-- some rule orders a before b
abbrev pub AnyRule : MemoryModel → List Event → Event → Event → Type 0
AnyRule model log a b = (k : ℕ) × Rule model log k a b

-- rules lead from a to b
abbrev pub Reaches : MemoryModel → List Event → Event → Event → Type 0
Reaches model log a b = Path Event (AnyRule model log) a b

-- each edge between two events is a path of links
abbrev pub Covers : MemoryModel → List Event → (Id → Id → Type 0) → Type 0
Covers model log Linked = (i j : Id) (reason : Reason) → i ≢ j → IsEdge model log i reason j → Path Id Linked i j
