use Rattle.std.proofs.Common.{◌≡◌}
use Rattle.rv_hart.specs.Kept.{hart_at}
use Rattle.rv_hart.proofs.Common.{IsLastOther}
use Rattle.rv_hart.proofs.ReadRuns.{IsRunWalk}
use Rattle.rv_hart.proofs.WordWalks.{left}
use Rattle.rv_hart.proofs.next.Next.fill_run.Given as goal

abbrev pub invariant-run : goal.invariant-run
invariant-run l =
    (x : IsLastOther (hart_at l.self) l.self.event.now l.fn.number) × (x.a.read ≡ l.version) ×
    IsRunWalk (hart_at l.self) l.self.event.now x.a l.next l.row

abbrev pub decreases-run : goal.decreases-run
decreases-run l = left l.next
