-- The links of a history as pairs of ids.
use Rattle.std.specs.Prelude.{◌++◌, Contains, List, map}
use Rattle.std.specs.List.{flat_map}
use Rattle.rv_cover.specs.Paths.{Covers}
use Rattle.rv_event.specs.Edges.{IsEdge}
use Rattle.rv_event.specs.declared.event.Event.{Event}
use Rattle.rv_event.specs.declared.event.Id.{Id}
use Rattle.rv_event.specs.declared.memory_model.MemoryModel.{MemoryModel}
use Rattle.rv_event.specs.declared.reason.Link.{Link}
use Rattle.rv_event.specs.declared.reason.Reason.{Reason}
use Rattle.rv_edges.specs.Kept.{Kept}
use Rattle.rv_edges.specs.declared.ties.Tie.{Tie}

-- the links of one event: first those from events before it, then those to events before it
abbrev pub ties_around : Id → List Link → List Link → List Tie
ties_around id before after =
    map (λ l. record { from = l.id; to = id }) before ++ map (λ l. record { from = id; to = l.id }) after

-- the links of a history, one event after the other
abbrev pub ties_of : List Kept → List Tie
ties_of kept = flat_map (λ k. ties_around k.event.id k.before k.after) kept

-- each of the ties is an edge of the log, and wherever the log has an edge a path of ties leads
pub record AreTiesOf (model : MemoryModel) (log : List Event) (ties : List Tie) : Type 0 where
  pub each : (t : Tie) → Contains ties t → (r : Reason) × IsEdge model log t.from r t.to
  pub covered : Covers model log (λ i j. Contains ties (record { from = i; to = j }))
