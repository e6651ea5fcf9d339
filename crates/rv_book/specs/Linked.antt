-- The links by which a book keeps the edges of its log.
use Rattle.std.specs.Prelude.{◌≡◌, List}
use Rattle.rv_event.specs.declared.event.Event.{Event}
use Rattle.rv_event.specs.declared.memory_model.MemoryModel.{MemoryModel}
use Rattle.rv_event.specs.declared.reason.Link.{Link}
use Rattle.rv_edges.specs.Histories.{IsCarried}
use Rattle.rv_edges.specs.Kept.{Kept, happened, links_of}

-- the links of the events of a log, one event after the other: each is of an edge, and wherever the
-- log has an edge a path of them leads
pub record AreLinksOf (model : MemoryModel) (log : List Event) (links : List Link) : Type 0 where
  pub history : List Kept
  pub of_log : happened history ≡ log
  pub carried : IsCarried model history
  pub all : links ≡ links_of history
