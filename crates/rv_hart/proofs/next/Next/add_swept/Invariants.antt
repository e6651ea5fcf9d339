use Rattle.rv_hart.proofs.Listings.{IsGathering}
use Rattle.rv_hart.proofs.next.Next.add_swept.Given as goal

abbrev pub invariant-taken : goal.invariant-taken
invariant-taken l = IsGathering l.self.kept.now.rows l.initial.left l.left l.top l.initial.row l.row

abbrev pub decreases-taken : goal.decreases-taken
decreases-taken l = l.top
