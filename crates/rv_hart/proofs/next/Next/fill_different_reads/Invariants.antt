-- The row stays empty up to the first load of another version.
use Rattle.rv_hart.proofs.Common.{◌≡◌, ℕ, false, has_bit}
use Rattle.rv_hart.specs.Kept.{hart_at}
use Rattle.rv_hart.proofs.WordWalks.{IsReadsWalk, left}
use Rattle.rv_hart.proofs.next.Next.fill_different_reads.Given as goal

abbrev pub invariant-met : goal.invariant-met
invariant-met l = record {
  empty : (s : ℕ) → has_bit l.row s ≡ false;
  walk : IsReadsWalk (hart_at l.self) l.self.event.now l.next;
}

abbrev pub decreases-met : goal.decreases-met
decreases-met l = left l.next
