-- A source of which some events were read.
use Rattle.rv_run.proofs.Common.{common_steps, ◌≡◌, ℕ, List, Option, None, Some, arith, Event, TakesEvents, Stream}
use Rattle.rv_run.proofs.Common.{TraceLeft, FeedEnd, Stopped, IsEndOf, IsFeeding}
use Rattle.rv_run.specs.Feeds.{IsReadOf}

-- ended at this point, whose part of the source's end is shown
ended : (start now : Option Stream) (es : List Event) (said : Option ℕ) (end : FeedEnd) → TakesEvents start now es →
    ((s : Stream) → start ≡ Some s → IsEndOf s es said end) → IsReadOf start es said end
ended start now es said end h l = grind (arith, common_steps)

-- the gate was stopped
pub feeding-stops : (start : Option Stream) (es : List Event) (trace : TraceLeft) → IsFeeding start es trace →
    IsReadOf start es None Stopped
feeding-stops start es trace so = ended start trace.stream es None Stopped so.taken (λ s is. tt)
