use Rattle.std.proofs.Common.{◌≡◌, ◌++◌, ◌==◌, ◌&&◌, filter, map, take}
use Rattle.rv_event.specs.Log.{events}
use Rattle.rv_book.specs.Counts.{is_waiting}
use Rattle.rv_coverage.specs.Waits.{wait_of}
use Rattle.rv_coverage.proofs.waiting.push_waits.Given as goal

-- those of the entries so far
abbrev pub invariant-entries : goal.invariant-entries
invariant-entries l =
    l.waits.items
    ≡ l.initial.waits.items
    ++ map (λ x. wait_of x.event)
    (filter (λ x. (x.event.id.hart == l.hart) && is_waiting (events l.book.log) x.event)
    (take l.entry-index l.entry-items))
