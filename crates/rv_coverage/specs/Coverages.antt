-- What of the model a log has exercised.
use Rattle.std.specs.Prelude.{◌≡◌, List, take}
use Rattle.rv_event.specs.Log.{events}
use Rattle.rv_event.specs.declared.event.Entry.{Entry}
use Rattle.rv_event.specs.declared.memory_model.MemoryModel.{MemoryModel}
use Rattle.rv_event.specs.declared.reason.Link.{Link}
use Rattle.rv_book.specs.Linked.{AreLinksOf}
use Rattle.rv_coverage.specs.Counts.{event_counts, harts_of, link_counts, pairs_of, read_counts}
use Rattle.rv_coverage.specs.Waits.{waits}
use Rattle.rv_coverage.specs.declared.coverage.Coverage.{Coverage}

-- Each number is the count that its name says. The links are such that each is of an edge of the
-- log, and wherever the log has an edge a path of them leads.
pub record IsCoverage (model : MemoryModel) (log : List Entry) (c : Coverage) : Type 0 where
  pub kept : List Link
  pub of_log : AreLinksOf model (events log) kept
  pub events_are : c.events.items ≡ event_counts log
  pub links_are : c.links.items ≡ link_counts kept
  pub reads_are : c.reads.items ≡ read_counts log
  pub harts_are : c.harts ≡ harts_of log
  pub pairs_are : c.pairs ≡ pairs_of (events log)
  pub waiting_are : c.waiting.items ≡ take 10 (waits log)
