-- What was read of a source.
use Rattle.std.specs.Prelude.{ℕ, List, Option}
use Rattle.rv_event.specs.declared.event.Event.{Event}
use Rattle.rv_run.specs.declared.feeding.FeedEnd.{FeedEnd}

-- its events so far, how reading it ended, and how many rows its end record says
pub record SourceRead : Type 0 where
  pub events : List Event
  pub end : FeedEnd
  pub said : Option ℕ
