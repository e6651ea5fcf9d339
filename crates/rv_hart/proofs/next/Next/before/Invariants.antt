use Rattle.rv_hart.specs.Kept.{hart_at}
use Rattle.rv_hart.proofs.Listings.{IsListing}
use Rattle.rv_hart.proofs.next.Next.before.Given as goal

abbrev pub invariant-taken : goal.invariant-taken
invariant-taken l =
    IsListing (hart_at l.self) l.self.event.now l.self.kept.now.rows l.initial.left l.left l.top l.links.items

abbrev pub decreases-taken : goal.decreases-taken
decreases-taken l = l.top
